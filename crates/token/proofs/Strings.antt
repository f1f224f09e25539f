-- Laws of literals: the walk over the inside of a string, where it ends, and the bad escape of a character literal.
use Rattle.std.specs.Prelude.{ℕ, Option, Some, None}
use Prim.Native.Nat.{ℕ, ◌+◌, ◌-◌, ◌<◌}
use mathlib.Core.Path.{◌≡◌, refl, sym, ap, ◌∙◌}
use mathlib.Core.Bool.{Bool, true, false}
use mathlib.Core.List.{List}
use native.Mathlib.Omega.{arith}
use lib.ListN.{length, get_or, drop, length-drop}
use lib.Seq.{drop-drop}
use borrow.Author.Tests.{ne_eqb}
use Rattle.text.specs.Booleans.{next_is}
use Rattle.text.specs.Scans.{later, sought}
use Rattle.text.proofs.Tests.{at_byte}
use Rattle.text.proofs.Walks.{sought_past, sought_stop}
use Rattle.literal.specs.Escapes.{escape_of}
use Rattle.literal.proofs.Escaped.{meant}
use Rattle.token.specs.Tokens.{moved, inside_look, string_of, char_token}
use Rattle.token.specs.declared.Token.TheVariants.{Found, NoToken}
use Rattle.token.proofs.Runs.{next_at, next_other}
use Rattle.token.proofs.Bounds.{stop_at}
use Rattle.token.proofs.Places.{found, none, none_by}

module _ (s : List ℕ) (i : ℕ) (h : i < length s) where
  pub inside_quote : get_or s i 0 ≡ 34 → later i (sought inside_look 0 (drop i s)) ≡ Some i
  unfolding inside_look
  inside_quote e = sought_stop inside_look s i h (rw (next_at s i h 34 e))

  pub inside_bad : get_or s i 0 ≡ 92 → (get_or s i 0 ≡ 34 → ⊥) → escape_of (drop i s) ≡ None → later i (sought inside_look 0 (drop i s)) ≡ Some i
  unfolding inside_look
  inside_bad e n p = sought_stop inside_look s i h (rw (next_other s i h 34 n, p, next_at s i h 92 e))

  pub inside_escape : (c n : ℕ) → (get_or s i 0 ≡ 34 → ⊥) → escape_of (drop i s) ≡ Some (c, n)
      → later i (sought inside_look 0 (drop i s)) ≡ later (i + n) (sought inside_look 0 (drop (i + n) s))
  unfolding inside_look
  inside_escape c n q e =
      let m = meant (drop i s) c n e in
      let z : i + ((n - 1) + 1) ≡ i + n = omega arith in
      sought_past inside_look s i (n - 1) h (rw (next_other s i h 34 q, e)) ∙ ap (λ (j : ℕ). later j (sought inside_look 0 (drop j s))) z

  no_escape_lem : (get_or s i 0 ≡ 92 → ⊥) → escape_of (drop i s) ≡ None
  unfolding escape_of
  no_escape_lem e = ap escape_of (at_byte s i h) ∙ rw (ne_eqb (get_or s i 0) 92 e)

  pub inside_byte : (get_or s i 0 ≡ 34 → ⊥) → (get_or s i 0 ≡ 92 → ⊥) → later i (sought inside_look 0 (drop i s)) ≡ later (i + 1) (sought inside_look 0 (drop (i + 1) s))
  unfolding inside_look
  inside_byte q e = sought_past inside_look s i 0 h (rw (next_other s i h 34 q, no_escape_lem e, next_other s i h 92 e))

-- a string that k bytes open at a place, and whose walk stopped
module _ (s : List ℕ) (at k i : ℕ) (e : later (at + k) (sought inside_look 0 (drop (at + k) s)) ≡ Some i) where
  pub string_inside : i < length s
  string_inside =
      let (n, q, z, l) = stop_at inside_look s (at + k) i e in
      omega (arith, length-drop (at + k) s)

  closes_at : (n : ℕ) (b : Bool) → i ≡ (at + k) + n → next_is 34 (drop i s) ≡ b → next_is 34 (drop n (drop (at + k) s)) ≡ b
  closes_at n b z q = ap (next_is 34) (drop-drop n (at + k) s ∙ ap (λ (j : ℕ). drop j s) (sym z)) ∙ q

  pub string_closed : (kind : ℕ) → get_or s i 0 ≡ 34 → Found kind at (i + 1) ≡ moved at (string_of kind k (drop (at + k) s))
  unfolding string_of
  string_closed kind c =
      let (n, q, z, l) = stop_at inside_look s (at + k) i e in
      let y : i + 1 ≡ at + (k + (n + 1)) = omega arith in
      rw (q, closes_at n true z (next_at s i string_inside 34 c)) (found kind at (k + (n + 1)) (i + 1) y)

  pub string_bad : (kind : ℕ) → (get_or s i 0 ≡ 34 → ⊥) → NoToken i ≡ moved at (string_of kind k (drop (at + k) s))
  unfolding string_of
  string_bad kind c =
      let (n, q, z, l) = stop_at inside_look s (at + k) i e in
      let y : i ≡ at + (k + n) = omega arith in
      rw (q, closes_at n false z (next_other s i string_inside 34 c)) (none_by at (k + n) i y)

good_is : (at : ℕ) (r : Option ℕ) → later at r ≡ None → r ≡ None
good_is at None e = refl
good_is at (Some n) e = let z : ◌≡◌ {A = ℕ} 0 1 = cc in absurd (omega arith)

-- one that the text's end cuts off
pub string_open : (s : List ℕ) (at k kind : ℕ) → later (at + k) (sought inside_look 0 (drop (at + k) s)) ≡ None
    → NoToken at ≡ moved at (string_of kind k (drop (at + k) s))
unfolding string_of
string_open s at k kind e = rw (good_is (at + k) (sought inside_look 0 (drop (at + k) s)) e) (none at)

-- a character literal whose escape is bad
pub char_bad : (at : ℕ) (xs : List ℕ) → next_is 92 xs ≡ true → escape_of xs ≡ None → NoToken (at + 1) ≡ moved at (char_token xs)
unfolding char_token
char_bad at xs b e = rw (b, e)
