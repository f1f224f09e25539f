-- The token at a place, by what stands there: a turn of the loop over blanks, and each way out of it.
use Rattle.std.specs.Prelude.{ℕ, Option, Some, None}
use Prim.Native.Nat.{ℕ, ◌+◌, ◌≤◌, ◌<◌}
use mathlib.Core.Path.{◌≡◌, refl, sym, ap, ◌∙◌}
use mathlib.Core.List.{List}
use native.Mathlib.Nat.{add_assoc, add-zero}
use native.Mathlib.Omega.{arith}
use lib.ListN.{length, get_or, drop}
use lib.Seq.{drop-drop}
use borrow.Author.Tests.{ne_eqb}
use Rattle.text.specs.Classes.{class_of}
use Rattle.text.specs.Scans.{later, sought}
use Rattle.text.proofs.Tests.{at_byte}
use Rattle.text.proofs.Walks.{sought_past, sought_stop, sought_end}
use Rattle.token.specs.Blanks.{digit_run, opener_blank, blank_by, blank_of, past_from}
use Rattle.token.specs.Tokens.{moved, word_token, number_token, opener_token, one_kind, token_by, first_token, past_blanks, token_of, token_at}
use Rattle.token.specs.declared.Token.{Token}
use Rattle.token.specs.declared.Token.TheVariants.{Found, End, NoToken}

pub moved_moved : (a b : ℕ) (r : Token) → moved a (moved b r) ≡ moved (a + b) r
moved_moved a b (Found k x y) = simp add_assoc
moved_moved a b End = refl
moved_moved a b (NoToken p) = simp add_assoc

-- the token at a place depends only on what is left there
pub token_is : (s : List ℕ) (at : ℕ) → token_at s at ≡ moved at (token_of (drop at s))
unfolding token_at
token_is s at = refl

-- a token that begins at a place, and no token there
pub found : (kind at n end : ℕ) → end ≡ at + n → Found kind at end ≡ moved at (Found kind 0 n)
found kind at n end e = rw (e, add-zero at)

pub none : (at : ℕ) → NoToken at ≡ moved at (NoToken 0)
none at = rw (add-zero at)

-- nor one that begins there, for a fault some bytes further on
pub none_by : (at n place : ℕ) → place ≡ at + n → NoToken place ≡ moved at (NoToken n)
none_by at n place e = rw e

-- where the blanks end, with places counted from the text's start
abbrev pub landed : List ℕ → Option ℕ → Token
landed s None = End
landed s (Some i) = moved i (first_token (drop i s))

landed_later : (s : List ℕ) (at : ℕ) (r : Option ℕ) → moved at (past_blanks (drop at s) r) ≡ landed s (later at r)
landed_later s at None = refl
landed_later s at (Some n) =
    moved_moved at n (first_token (drop n (drop at s))) ∙ ap (λ (l : List ℕ). moved (at + n) (first_token l)) (drop-drop n at s)

pub landed_is : (s : List ℕ) (at : ℕ) → token_at s at ≡ landed s (later at (sought blank_of 0 (drop at s)))
unfolding token_at token_of
landed_is s at = landed_later s at (sought blank_of 0 (drop at s))

pub at_over : (s : List ℕ) (i : ℕ) → length s ≤ i → End ≡ token_at s i
at_over s i h = sym (landed_is s i ∙ ap (landed s) (sought_end blank_of s i h))

-- a place that did not stay the same is past a blank
moved_on : (i j : ℕ) (r : Option ℕ) → j ≡ past_from i r → (j ≡ i → ⊥) → (n : ℕ) × (r ≡ Some n) × (j ≡ i + (n + 1))
moved_on i j (Some n) e d = (n, refl, e)
moved_on i j None e d = absurd (d e)

stayed : (i j : ℕ) (r : Option ℕ) → j ≡ past_from i r → j ≡ i → r ≡ None
stayed i j (Some n) e d = absurd (omega arith)
stayed i j None e d = refl

module _ (s : List ℕ) (i : ℕ) (h : i < length s) where
  past_blank : (n : ℕ) → blank_of (drop i s) ≡ Some n → token_at s i ≡ token_at s (i + (n + 1))
  past_blank n e = landed_is s i ∙ ap (landed s) (sought_past blank_of s i n h e) ∙ sym (landed_is s (i + (n + 1)))

  at_first : blank_of (drop i s) ≡ None → token_at s i ≡ moved i (first_token (drop i s))
  at_first e = landed_is s i ∙ ap (landed s) (sought_stop blank_of s i h e)

  -- by the class of the byte
  module _ (c : ℕ) (e : c ≡ class_of (get_or s i 0)) where
    blank_is : blank_of (drop i s) ≡ blank_by c (get_or s i 0) (drop (i + 1) s)
    blank_is = ap blank_of (at_byte s i h) ∙ ap (λ (k : ℕ). blank_by k (get_or s i 0) (drop (i + 1) s)) (sym e)

    first_is : first_token (drop i s) ≡ token_by c (get_or s i 0) (drop (i + 1) s)
    first_is = ap first_token (at_byte s i h) ∙ ap (λ (k : ℕ). token_by k (get_or s i 0) (drop (i + 1) s)) (sym e)

    here : blank_by c (get_or s i 0) (drop (i + 1) s) ≡ None → token_at s i ≡ moved i (token_by c (get_or s i 0) (drop (i + 1) s))
    here q = at_first (blank_is ∙ q) ∙ ap (moved i) first_is

    pub at_blank : c ≡ 1 → token_at s i ≡ token_at s (i + 1)
    unfolding blank_by
    at_blank q = past_blank 0 (blank_is ∙ rw q refl)

    pub at_word : c ≡ 2 → (r : Token) → r ≡ moved i (word_token (drop i s)) → r ≡ token_at s i
    unfolding blank_by token_by
    at_word q r z = z ∙ sym (here (rw q refl) ∙ rw (q, at_byte s i h))

    pub at_number : c ≡ 3 → (end : ℕ) → end ≡ i + digit_run (drop i s) → Found 20 i end ≡ token_at s i
    unfolding blank_by token_by number_token
    at_number q end z = sym (here (rw q refl) ∙ rw (q, z, at_byte s i h, add-zero i))

    pub at_one : c ≡ 4 → (k : ℕ) → k ≡ one_kind (get_or s i 0) → Found k i (i + 1) ≡ token_at s i
    unfolding blank_by token_by
    at_one q k z = sym (here (rw q refl) ∙ rw (q, z, add-zero i))

    module _ (q : c ≡ 5) (next : ℕ) (z : next ≡ past_from i (opener_blank (get_or s i 0) (drop (i + 1) s))) where
      pub at_opener : next ≡ i → (r : Token) → r ≡ moved i (opener_token (get_or s i 0) (drop (i + 1) s)) → r ≡ token_at s i
      unfolding blank_by token_by
      at_opener n r w = w ∙ sym (here (rw q (stayed i next (opener_blank (get_or s i 0) (drop (i + 1) s)) z n)) ∙ rw q)

      pub at_next : (next ≡ i → ⊥) → token_at s i ≡ token_at s next
      unfolding blank_by
      at_next n =
          let (k, b, j) = moved_on i next (opener_blank (get_or s i 0) (drop (i + 1) s)) z n in
          rw j (past_blank k (blank_is ∙ rw q b))

      pub next_past : (next ≡ i → ⊥) → i < next
      next_past n =
          let (k, b, j) = moved_on i next (opener_blank (get_or s i 0) (drop (i + 1) s)) z n in
          omega arith

    pub at_none : (c ≡ 1 → ⊥) → (c ≡ 2 → ⊥) → (c ≡ 3 → ⊥) → (c ≡ 4 → ⊥) → (c ≡ 5 → ⊥) → NoToken i ≡ token_at s i
    unfolding blank_by token_by
    at_none a b d f g = sym (here (rw (ne_eqb _ 1 a, ne_eqb _ 5 g)) ∙ rw (ne_eqb _ 2 b, ne_eqb _ 3 d, ne_eqb _ 4 f, ne_eqb _ 5 g, add-zero i))

-- a byte of class 1 is a blank: a space, LF
at_low : (b : ℕ) → class_of b ≡ 1 → (s : List ℕ) (i : ℕ) → i < length s → get_or s i 0 ≡ b → token_at s i ≡ token_at s (i + 1)
at_low b k s i h e = at_blank s i h (class_of (get_or s i 0)) refl (ap class_of e ∙ k)

pub at_space : (s : List ℕ) (i : ℕ) → i < length s → get_or s i 0 ≡ 32 → token_at s i ≡ token_at s (i + 1)
unfolding class_of
at_space = at_low 32 refl

pub at_feed : (s : List ℕ) (i : ℕ) → i < length s → get_or s i 0 ≡ 10 → token_at s i ≡ token_at s (i + 1)
unfolding class_of
at_feed = at_low 10 refl
