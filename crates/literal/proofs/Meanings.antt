-- The string that the inside of a literal means is UTF-8, if the inside is and no escape is bad.
use Rattle.std.specs.Prelude.{ℕ, Option, Some, None}
use Prim.Native.Nat.{ℕ, ◌+◌, ◌<◌}
use mathlib.Core.Path.{◌≡◌, refl, sym, ap, ◌∙◌}
use mathlib.Core.Bool.{Bool, true, false}
use mathlib.Core.List.{List, [], ◌∷◌, ◌++◌}
use native.Mathlib.Nat.{zero-add}
use native.Mathlib.Omega.{arith}
use lib.Dec.{eqb}
use lib.ListN.{length, take, drop, length-drop, take-append-drop}
use borrow.Author.Tests.{eqb-true, eqb-false}
use Rattle.text.specs.Scans.{spelled, sought}
use Rattle.text.specs.Utf8.{scalar, encoded, seq_look, first_bad}
use Rattle.text.proofs.Decodes.{encoded_one}
use Rattle.text.proofs.Walks.{later_zero}
use Rattle.literal.specs.Escapes.{escape_of, escape_look_by, escape_look, bad_escape, escape_piece, unescaped}
use Rattle.literal.proofs.Escaped.{meant, means_turn, plain_turn, means_look, plain_look, good_scalar}
use Rattle.literal.proofs.Pieces.{later_good, over_bytes, over_rest, over_char, over_ascii, encoded_free, Char, first_char, shorter_by}
use Rattle.literal.proofs.Back.{plain_byte, bare_gives}

-- the first character of what s means is c, and what is left is as good as s
record First (s : List ℕ) (c : ℕ) (rest : List ℕ) : Type 0 where
  gives : spelled escape_piece 0 s ≡ encoded c ++ spelled escape_piece 0 rest
  good : scalar c ≡ true
  utf8 : first_bad rest ≡ None
  fine : bad_escape rest ≡ None
  less : length rest < length s

module _ (x : ℕ) (xs : List ℕ) (g : first_bad (x ∷ xs) ≡ None) (b : bad_escape (x ∷ xs) ≡ None) where
  here : 0 < length (x ∷ xs)
  here = omega arith

  means_first : (c n : ℕ) → escape_of (x ∷ xs) ≡ Some (c, n) → First (x ∷ xs) c (drop n (x ∷ xs))
  unfolding first_bad bad_escape
  means_first c n e =
      let s : List ℕ = x ∷ xs in
      let m = meant s c n e in
      let z : 0 + n ≡ n = zero-add n in
      let k : scalar c ≡ true = good_scalar s 0 here c n (later_zero (sought escape_look 0 s) ∙ b) e in
      record {
        gives = rw z at (means_turn s 0 here c n e).is;
        good = k;
        utf8 = over_rest seq_look (take n s) (drop n s) (over_ascii (take n s) m.ascii) (ap (sought seq_look 0) (take-append-drop n s) ∙ g);
        fine = later_good n (sought escape_look 0 (drop n s)) (sym (rw z at (means_look s 0 here c n e k)) ∙ (later_zero (sought escape_look 0 s) ∙ b));
        less = omega (arith, length-drop n s, m.two);
      }

  char_first : (c : ℕ) (rest : List ℕ) → Char (x ∷ xs) c rest → (c ≡ 92 → ⊥) → First (x ∷ xs) c rest
  unfolding bad_escape
  char_first c rest d n =
      record {
        gives = ap (spelled escape_piece 0) (sym d.is) ∙ bare_gives c n rest;
        good = d.good;
        utf8 = d.next;
        fine = over_rest escape_look (encoded c) rest
            (over_bytes escape_look (λ (y : ℕ). y ≡ 92 → ⊥) (λ y ys a. ap escape_look_by (plain_byte y ys a)) (encoded c) (encoded_free 92 c (omega arith) n))
            (ap (sought escape_look 0) d.is ∙ b);
        less = d.less;
      }

  slash_first : (c : ℕ) (rest : List ℕ) → Char (x ∷ xs) c rest → escape_of (x ∷ xs) ≡ None → c ≡ 92 → First (x ∷ xs) c rest
  unfolding bad_escape
  slash_first c rest d e n =
      let s : List ℕ = x ∷ xs in
      let o : encoded c ≡ c ∷ [] = encoded_one c (omega arith) in
      let i : c ∷ rest ≡ x ∷ xs = rw o at d.is in
      let y : xs ≡ rest = cc in
      let v : x ≡ c = cc in
      record {
        gives = rw (o, ← y, ← v) (plain_turn s 0 here e).is;
        good = d.good;
        utf8 = d.next;
        fine = rw y at (later_good 1 (sought escape_look 0 xs) (sym (plain_look s 0 here e) ∙ (later_zero (sought escape_look 0 s) ∙ b)));
        less = d.less;
      }

  plain_by : (c : ℕ) (rest : List ℕ) → Char (x ∷ xs) c rest → escape_of (x ∷ xs) ≡ None → (t : Bool) → eqb c 92 ≡ t → First (x ∷ xs) c rest
  plain_by c rest d e true q = slash_first c rest d e (eqb-true c 92 q)
  plain_by c rest d e false q = char_first c rest d (eqb-false c 92 q)

  first_by : (r : Option (ℕ × ℕ)) → escape_of (x ∷ xs) ≡ r → (c : ℕ) × (rest : List ℕ) × First (x ∷ xs) c rest
  first_by (Some (c, n)) e = (c, drop n (x ∷ xs), means_first c n e)
  first_by None e =
      let t = first_char x xs g in
      (t.0, t.1, plain_by t.0 t.1 t.2 e (eqb t.0 92) refl)

MeansUtf8 : List ℕ → Type 0
MeansUtf8 s = first_bad s ≡ None → bad_escape s ≡ None → first_bad (unescaped s) ≡ None

step : (s : List ℕ) → ((t : List ℕ) → length t < length s → MeansUtf8 t) → MeansUtf8 s
unfolding MeansUtf8 first_bad unescaped spelled sought
step [] ih g b = refl
step (x ∷ xs) ih g b =
    let t = first_by x xs g b (escape_of (x ∷ xs)) refl in
    let d = t.2 in
    let n : sought seq_look 0 (spelled escape_piece 0 t.1) ≡ None = ih t.1 d.less d.utf8 d.fine in
    ap (sought seq_look 0) d.gives ∙ (over_char t.0 d.good (spelled escape_piece 0 t.1) ∙ rw n)

pub unescaped_utf8 : (s : List ℕ) → first_bad s ≡ None → bad_escape s ≡ None → first_bad (unescaped s) ≡ None
unfolding MeansUtf8
unescaped_utf8 = shorter_by MeansUtf8 step
