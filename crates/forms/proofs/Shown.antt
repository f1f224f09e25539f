-- Literals of ASCII and of U+00A1 to U+024F are what `fmt_literal` of ast.rs writes. One test, which is computed, tries each character between both quotes.
use Prim.Native.Nat.{ℕ, zero, suc, ◌<◌}
use mathlib.Core.Path.{◌≡◌, refl, ap, ◌∙◌}
use mathlib.Core.Bool.{Bool, true, false, not}
use mathlib.Core.List.{List, [], ◌∷◌, ◌++◌, append_assoc, append-nil}
use mathlib.Core.Logic.{⊎_elim}
use native.Mathlib.Omega.{arith}
use lib.Dec.{eqb, ltb}
use borrow.Author.Tests.{lt-ltb, ltb-true, eqb-true}
use Rattle.text.specs.Booleans.{and, or, within, all}
use Rattle.text.specs.Scans.{spelled}
use Rattle.text.specs.Utf8.{scalar, encoded}
use Rattle.text.specs.Digits.{hex_digit, hexes}
use Rattle.text.proofs.Booleans.{and_true, or_by}
use Rattle.text.proofs.Tests.{lt_or_ge, within_is}
use Rattle.literal.specs.declared.Quote.{Quote}
use Rattle.literal.specs.declared.Quote.TheVariants.{Double, Single}
use Rattle.literal.specs.Literals.{hex_count, show_of, shown_by, shown, inside, literal, quote_byte}
use Rattle.literal.proofs.Back.{inside_char}
use Rattle.table.specs.declared.Sort.{Sort}
use Rattle.table.specs.declared.Sort.TheVariants.{Str, Insens, Ident, PushLiteral}
use Rattle.table.specs.Tree.{text, range, leaf}
use Rattle.forms.specs.Printing.{brackets, enclosed, character, sort_text, range_text, printed}
use Rattle.forms.specs.Display.{display, told, escape_debug, fmt_char, each_char, fmt_literal, display_text, display_range}
use Rattle.forms.proofs.Displays.{bare}

-- ---- a test of all numbers below n, which is computed

abbrev each : (ℕ → Bool) → ℕ → Bool
each f zero = true
each f (suc n) = and (f n) (each f n)

each_below : (f : ℕ → Bool) (n : ℕ) → each f n ≡ true → (c : ℕ) → c < n → f c ≡ true
each_below f zero e c h = absurd (omega arith)
each_below f (suc n) e c h =
    let g = and_true (f n) (each f n) e in
    ⊎_elim (λ l. each_below f n g.1 c l) (λ l. let z : c ≡ n = omega arith in rw z g.0) (lt_or_ge c n)

abbrev same : List ℕ → List ℕ → Bool
same [] [] = true
same [] (y ∷ ys) = false
same (x ∷ xs) [] = false
same (x ∷ xs) (y ∷ ys) = and (eqb x y) (same xs ys)

same_is : (xs ys : List ℕ) → same xs ys ≡ true → xs ≡ ys
same_is [] [] e = refl
same_is [] (y ∷ ys) e = let z : ◌≡◌ {A = ℕ} 0 1 = cc in absurd (omega arith)
same_is (x ∷ xs) [] e = let z : ◌≡◌ {A = ℕ} 0 1 = cc in absurd (omega arith)
same_is (x ∷ xs) (y ∷ ys) e =
    let g = and_true (eqb x y) (same xs ys) e in
    rw (eqb-true x y g.0, same_is xs ys g.1)

-- ---- each character

abbrev agrees : Quote → ℕ → Bool
agrees q c = or (not (told c)) (same (shown (quote_byte q) c) (fmt_char (quote_byte q) c))

all_agree : (q : Quote) → each (agrees q) 0x250 ≡ true
unfolding fmt_char escape_debug shown show_of shown_by hex_count hexes hex_digit encoded
all_agree Double = refl
all_agree Single = refl

told_below : (c : ℕ) → told c ≡ true → c < 0x250
told_below c e = or_by (ltb c 0x80) (within 0xa1 0x24f c) e (λ t. omega (arith, ltb-true c 0x80 t)) (λ t. omega (arith, (within_is 0xa1 0x24f c t).high))

told_scalar : (c : ℕ) → told c ≡ true → scalar c ≡ true
unfolding scalar
told_scalar c e = rw (lt-ltb c 0xd800 (omega (arith, told_below c e)))

by_told : (b s : Bool) → b ≡ true → or (not b) s ≡ true → s ≡ true
by_told true s e h = h
by_told false s e h = let z : ◌≡◌ {A = ℕ} 0 1 = cc in absurd (omega arith)

module _ (q : Quote) where
  pub display_char : (c : ℕ) → told c ≡ true → shown (quote_byte q) c ≡ fmt_char (quote_byte q) c
  display_char c e = same_is _ _ (by_told (told c) _ e (each_below (agrees q) 0x250 (all_agree q) c (told_below c e)))

  -- ---- strings

  display_inside : (cs : List ℕ) → all told cs ≡ true → inside (quote_byte q) (each_char encoded cs) ≡ each_char (fmt_char (quote_byte q)) cs
  unfolding inside spelled each_char all
  display_inside [] e = refl
  display_inside (c ∷ cs) e =
      let g = and_true (told c) (all told cs) e in
      inside_char (quote_byte q) c (told_scalar c g.0) (each_char encoded cs) ∙ rw (display_char c g.0, display_inside cs g.1)

  pub display_literal : (cs : List ℕ) → all told cs ≡ true → literal (quote_byte q) (each_char encoded cs) ≡ fmt_literal (quote_byte q) cs
  unfolding literal fmt_literal
  display_literal cs e = ap (λ x. quote_byte q ∷ (x ++ (quote_byte q ∷ []))) (display_inside cs e)

-- ---- leaves

display_end : (x : ℕ) → told x ≡ true → character x ≡ fmt_literal 39 (x ∷ [])
unfolding character fmt_literal each_char
display_end x e = rw (display_char Single x e, append-nil (fmt_char 39 x))

module _ {P : Type 0} (s : P) where
  pub display_text_lem : (k : Sort) (cs : List ℕ) → all told cs ≡ true → display (leaf s (text k (each_char encoded cs))) ≡ display_text k cs
  unfolding printed brackets sort_text display_text
  display_text_lem Str cs e = bare _ ∙ display_literal Double cs e
  display_text_lem Insens cs e = bare _ ∙ ap (λ x. 94 ∷ x) (display_literal Double cs e)
  display_text_lem Ident cs e = bare _
  display_text_lem PushLiteral cs e =
      bare _ ∙ ap (λ x. 80 ∷ 85 ∷ 83 ∷ 72 ∷ 95 ∷ 76 ∷ 73 ∷ 84 ∷ 69 ∷ 82 ∷ 65 ∷ 76 ∷ 40 ∷ (x ++ (41 ∷ []))) (display_literal Double cs e)

  pub display_range_lem : (x y : ℕ) → told x ≡ true → told y ≡ true → display (leaf s (range x y)) ≡ display_range x y
  unfolding printed brackets enclosed range_text display_range
  display_range_lem x y a b = ap (λ l. 40 ∷ l) (append_assoc (character x) (46 ∷ 46 ∷ character y) (41 ∷ [])) ∙ rw (display_end x a, display_end y b)
