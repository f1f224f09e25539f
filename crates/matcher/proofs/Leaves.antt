-- Laws of what is done at a leaf. A text is compared byte by byte: after j bytes that are alike, what is left to be compared is the rest.
use mathlib.Core.Bool.{Bool, true, false}
use Prim.Native.Nat.{ℕ, zero, suc, ◌+◌, ◌-◌, ◌≤◌, ◌<◌, max}
use native.Mathlib.Decide.{dec_lt}
use Rattle.std.specs.Char.{to_ascii_lowercase, eq_ignore_ascii_case}
use mathlib.Core.Path.{◌≡◌, refl, sym, ◌∙◌}
use mathlib.Core.List.{List, [], ◌∷◌}
use native.Mathlib.Omega.{arith}
use native.Mathlib.Numerals.{add-one}
use lib.Dec.{eqb, leb}
use lib.ListN.{length, get_or, drop, length-take, length-drop}
use lib.Seq.{drop-cons}
use borrow.Author.Tests.{lt-ltb, le-ltb, le-leb, lt-leb, ne_eqb}
use Rattle.table.proofs.Booleans.{and_second}
use Rattle.table.specs.Characters.{and}
use Rattle.table.specs.Record.{part}
use Rattle.matcher.specs.declared.Outcome.TheVariants.{Matched, Missed}
use Rattle.matcher.specs.Match.{took, lower, alike, starts}

pub took_true : {b : Bool} (e l : ℕ) → b ≡ true → Matched e l ≡ took b e l
unfolding took
took_true e l q = rw q

pub took_false : {b : Bool} (e l : ℕ) → b ≡ false → Missed l ≡ took b e l
unfolding took
took_false e l q = rw q

-- ---- bytes

pub lower_below : (x : ℕ) → x < 65 → x ≡ lower x
unfolding lower
lower_below x h = rw (lt-leb 65 x h)

pub lower_above : (x : ℕ) → 90 < x → x ≡ lower x
unfolding lower
lower_above x h = let l : leb 65 x ≡ true = le-leb 65 x (omega arith) in rw (l, lt-leb x 90 h)

pub lower_letter : (x : ℕ) → 65 ≤ x → x ≤ 90 → x + 32 ≡ lower x
unfolding lower
lower_letter x h l = rw (le-leb 65 x h, le-leb x 90 l)

-- the library's lower case is the definition's
lower_is : (x : ℕ) → to_ascii_lowercase x ≡ lower x
lower_is x = go (dec_lt x 65) (dec_lt 90 x)
  where
    go : Dec (x < 65) → Dec (90 < x) → to_ascii_lowercase x ≡ lower x
    go (yes h) d = rw (lt-ltb x 65 h) (lower_below x h)
    go (no h) (yes d) = rw (le-ltb x 65 (omega arith), le-ltb x 91 (omega arith)) (lower_above x d)
    go (no h) (no d) = rw (le-ltb x 65 (omega arith), lt-ltb x 91 (omega arith)) (lower_letter x (omega arith) (omega arith))

pub alike_fold : (x y : ℕ) → eq_ignore_ascii_case x y ≡ alike true x y
alike_fold x y = rw (sym (lower_is x), sym (lower_is y))

-- ---- texts

starts_short : (f : Bool) (xs ys : List ℕ) → length ys < length xs → starts f xs ys ≡ false
unfolding starts
starts_short f [] ys h = absurd (omega arith)
starts_short f (x ∷ xs) [] h = refl
starts_short f (x ∷ xs) (y ∷ ys) h = and_second (alike f x y) (starts f xs ys) (starts_short f xs ys (omega arith))

module _ (f : Bool) (st : List ℕ) (p n : ℕ) (line : List ℕ) (at : ℕ) where
  abbrev test : Bool
  test = starts f (part st p n) (drop at line)

  pub text_none : n ≡ 0 → test ≡ true
  unfolding starts
  text_none e = rw e

  pub text_short : p + n ≤ length st → length line < at + n → 0 < n → test ≡ false
  text_short h l z = starts_short f (part st p n) (drop at line) (simp (length-take, length-drop) (omega arith))

pub text_past : (f : Bool) (st : List ℕ) (p n : ℕ) (line : List ℕ) (at : ℕ) → p + n ≤ length st → length line < at → eqb n 0 ≡ starts f (part st p n) (drop at line)
text_past f st p zero line at h l = sym (text_none f st p zero line at refl)
text_past f st p (suc n) line at h l = ne_eqb (suc n) 0 (λ z. omega arith) ∙ sym (text_short f st p (suc n) line at h (omega arith) (omega arith))

-- a text that matched ends where it began or inside the line
pub text_room : (f : Bool) (st : List ℕ) (p n : ℕ) (line : List ℕ) (at : ℕ) → p + n ≤ length st → starts f (part st p n) (drop at line) ≡ true → at + n ≤ max at (length line)
text_room f st p n line at h e = go (dec_lt (length line) (at + n)) (dec_lt 0 n)
  where
    go : Dec (length line < at + n) → Dec (0 < n) → at + n ≤ max at (length line)
    go (no l) z = omega arith
    go (yes l) (no z) = omega arith
    go (yes l) (yes z) = let w : false ≡ true = sym (text_short f st p n line at h l z) ∙ e in let y : ◌≡◌ {A = ℕ} 0 1 = cc in absurd (omega arith)

text_on : (f : Bool) (st : List ℕ) (p n : ℕ) (line : List ℕ) (at : ℕ) → p < length st → at < length line → 0 < n → starts f (part st p n) (drop at line) ≡ and (alike f (get_or st p 0) (get_or line at 0)) (starts f (part st (p + 1) (n - 1)) (drop (at + 1) line))
unfolding starts
text_on f st p zero line at h l z = absurd (omega arith)
text_on f st p (suc n) line at h l z = let m : suc n - 1 ≡ n = omega arith in rw (m, drop-cons st p 0 h, drop-cons line at 0 l, add-one p, add-one at)

-- where j bytes are alike
pub record Same (f : Bool) (st : List ℕ) (p n : ℕ) (line : List ℕ) (at j : ℕ) : Type 0 where
  pub room : at + n ≤ length line
  pub some : j ≤ n
  pub rest : starts f (part st p n) (drop at line) ≡ starts f (part st (p + j) (n - j)) (drop (at + j) line)

module _ (f : Bool) (st : List ℕ) (p n : ℕ) (line : List ℕ) (at : ℕ) where
  pub same_none : at + n ≤ length line → Same f st p n line at 0
  same_none h =
      let a : p + 0 ≡ p = omega arith in
      let b : n - 0 ≡ n = omega arith in
      let d : at + 0 ≡ at = omega arith in
      record { room = h; some = omega arith; rest = sym (rw (a, b, d)) }

  module _ (j : ℕ) (h : p + n ≤ length st) (s : Same f st p n line at j) (l : j < n) {t : Bool} (e : t ≡ alike f (get_or st (p + j) 0) (get_or line (at + j) 0)) where
    onward : starts f (part st p n) (drop at line) ≡ and t (starts f (part st ((p + j) + 1) ((n - j) - 1)) (drop ((at + j) + 1) line))
    onward = s.rest ∙ text_on f st (p + j) (n - j) line (at + j) (omega (arith, s.room)) (omega (arith, s.room)) (omega arith) ∙ rw (sym e)

    pub same_more : t ≡ true → Same f st p n line at (j + 1)
    same_more q = record { room = s.room; some = omega arith; rest = onward ∙ (rw q shift) }
      where
        shift : starts f (part st ((p + j) + 1) ((n - j) - 1)) (drop ((at + j) + 1) line) ≡ starts f (part st (p + (j + 1)) (n - (j + 1))) (drop (at + (j + 1)) line)
        shift =
            let a : (p + j) + 1 ≡ p + (j + 1) = omega arith in
            let b : (n - j) - 1 ≡ n - (j + 1) = omega arith in
            let d : (at + j) + 1 ≡ at + (j + 1) = omega arith in
            rw (a, b, d)

    pub same_not : t ≡ false → false ≡ starts f (part st p n) (drop at line)
    same_not q = sym (onward ∙ (rw q))

  pub same_all : (j : ℕ) → Same f st p n line at j → n ≤ j → true ≡ starts f (part st p n) (drop at line)
  same_all j s l = sym (s.rest ∙ text_none f st (p + j) (n - j) line (at + j) (omega arith))
