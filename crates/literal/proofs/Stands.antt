-- What a character is printed as: an escape of it, or the character itself.
use Rattle.std.specs.Prelude.{Some}
use Prim.Native.Nat.{ℕ, zero, suc, ◌+◌, ◌*◌, ◌/◌, ◌%◌, ◌^◌, ◌≤◌, ◌<◌}
use mathlib.Core.Path.{◌≡◌, refl, sym, ap, ◌∙◌}
use mathlib.Core.Bool.{true}
use mathlib.Core.List.{List, [], ◌∷◌, ◌++◌, append_assoc}
use native.Mathlib.Nat.{pow-suc, add-zero, zero-add, zero-mul, mul_assoc}
use native.Mathlib.Omega.{arith}
use lib.Dec.{ltb, eqb}
use lib.ListN.{length, drop}
use lib.Seq.{drop_at}
use borrow.Author.Tests.{le-leb, eqb-true, eqb-false}
use Rattle.text.specs.Utf8.{scalar, encoded}
use Rattle.text.specs.Digits.{hex_of, hex_digit, hexes}
use Rattle.text.proofs.Encodes.{scalar_below}
use Rattle.text.proofs.Hexes.{digit_back, length_hexes}
use Rattle.text.proofs.Booleans.{choose_by}
use Rattle.literal.specs.declared.Show.{Show}
use Rattle.literal.specs.declared.Digits.{Digits}
use Rattle.literal.specs.Escapes.{digits_of, simple_of, braced_by, braced_of, after_of, escape_of}
use Rattle.literal.specs.Literals.{hex_count, bare, show_of, shown_by, shown}
use Rattle.literal.proofs.Hexes.{fewest}
use Rattle.literal.proofs.Escaped.{digits_go}
use Rattle.literal.proofs.Printed.{braced, length_braced}

-- ---- digits that were printed are read back

place : (a c : ℕ) → (a + c / 16) * 16 + c % 16 ≡ a * 16 + c
place a c = omega arith

hexes_back : (n c v k m : ℕ) (ys : List ℕ) → c < 16 ^ n → k + n ≤ m → digits_of m v k (hexes n c ++ ys) ≡ digits_of m (v * 16 ^ n + c) (k + n) ys
unfolding hexes
hexes_back zero c v k m ys h l =
    let e : v * 16 ^ 0 + c ≡ v = omega arith in
    rw (e, add-zero)
hexes_back (suc n) c v k m ys h l =
    let h' : c / 16 < 16 ^ n = omega (arith, pow-suc 16 n) in
    let z : c % 16 < 16 = omega arith in
    let e : (v * 16 ^ n + c / 16) * 16 + c % 16 ≡ v * 16 ^ suc n + c =
    place (v * 16 ^ n) c ∙ ap (λ (x : ℕ). x + c) (mul_assoc v (16 ^ n) 16 ∙ ap (λ (x : ℕ). v * x) (sym (pow-suc 16 n))) in
    let f : (k + n) + 1 ≡ k + suc n = omega arith in
    let g : k + n < m = omega arith in
    ap (digits_of m v k) (append_assoc (hexes n (c / 16)) (hex_digit (c % 16) ∷ []) ys)
    ∙ (hexes_back n (c / 16) v k m (hex_digit (c % 16) ∷ ys) h' (omega arith)
    ∙ (digits_go m (v * 16 ^ n + c / 16) (k + n) (hex_digit (c % 16)) (c % 16) ys g (digit_back (c % 16) z)
    ∙ rw (e, f)))

digits_brace : (v k : ℕ) (ys : List ℕ) → digits_of 6 v k (125 ∷ ys) ≡ record { value = v; count = k }
unfolding digits_of hex_of
digits_brace v k ys = choose_by (λ (r : Digits). r ≡ record { value = v; count = k }) (ltb k 6) _ _ (λ t. refl) (λ f. refl)

braced_go : (xs ys : List ℕ) (d : Digits) → 2 ≤ d.count → drop d.count xs ≡ 125 ∷ ys → braced_by xs d ≡ Some (d.value, d.count + 4)
braced_go xs ys d h e = rw (le-leb 2 d.count h, e)

braced_escape : (xs : List ℕ) (v n : ℕ) → braced_by xs (digits_of 6 0 0 xs) ≡ Some (v, n) → escape_of (92 ∷ 117 ∷ 123 ∷ xs) ≡ Some (v, n)
unfolding escape_of after_of simple_of braced_of
braced_escape xs v n e = e

hex_back : (c : ℕ) (ys : List ℕ) → c < 0x1000000 → escape_of (92 ∷ 117 ∷ 123 ∷ (hexes (hex_count c) c ++ (125 ∷ ys))) ≡ Some (c, hex_count c + 4)
hex_back c ys h =
    let w = fewest c h in
    let n : ℕ = hex_count c in
    let xs : List ℕ = hexes n c ++ (125 ∷ ys) in
    let z : 0 + n ≤ 6 = omega (arith, w.most) in
    let s : digits_of 6 (0 * 16 ^ n + c) (0 + n) (125 ∷ ys) ≡ record { value = c; count = n } =
    digits_brace (0 * 16 ^ n + c) (0 + n) ys ∙ rw (zero-mul (16 ^ n), zero-add c, zero-add n) in
    let d : digits_of 6 0 0 xs ≡ record { value = c; count = n } = hexes_back n c 0 0 6 (125 ∷ ys) w.enough z ∙ s in
    let e : drop n xs ≡ 125 ∷ ys = drop_at (hexes n c) (125 ∷ ys) n (length_hexes n c) in
    braced_escape xs c (n + 4) (rw d (braced_go xs ys (record { value = c; count = n }) w.two e))

-- ---- what a character is printed as

-- x is an escape of c, whatever comes behind it
pub record Escapes (x : List ℕ) (c : ℕ) : Type 0 where
  pub means : (ys : List ℕ) → escape_of (x ++ ys) ≡ Some (c, length x)

-- x stands for c between quotes q: an escape, or the character itself if it is neither the quote nor a backslash
pub data Stands : ℕ → List ℕ → ℕ → Type 0 where
  escape : {q c : ℕ} {x : List ℕ} → Escapes x c → Stands q x c
  itself : {q c : ℕ} {x : List ℕ} → x ≡ encoded c → (c ≡ 92 → ⊥) → (c ≡ q → ⊥) → Stands q x c

pub pair_escapes : (b c : ℕ) → simple_of b ≡ Some c → Escapes (92 ∷ b ∷ []) c
unfolding escape_of after_of
pair_escapes b c e = record { means = λ ys. rw e }

hex_escapes : (c : ℕ) → c < 0x1000000 → Escapes (braced (hex_count c) c) c
hex_escapes c h = record {
  means = λ ys.
      ap (λ (l : List ℕ). escape_of (92 ∷ 117 ∷ 123 ∷ l)) (append_assoc (hexes (hex_count c) c) (125 ∷ []) ys)
      ∙ (hex_back c ys h ∙ ap (λ n. Some (c, n)) (sym (length_braced (hex_count c) c)));
}

pub shown_stands : (q c : ℕ) → simple_of q ≡ Some q → scalar c ≡ true → Stands q (shown q c) c
unfolding shown show_of shown_by simple_of
shown_stands q c w s =
    let Is-good : Show → Type 0 = λ (r : Show). Stands q (shown_by r c) c in
    choose_by Is-good (eqb c q) _ _ (λ t. let e : c ≡ q = eqb-true c q t in escape (pair_escapes q c (w ∙ ap Some (sym e))))
    (λ f. choose_by Is-good (eqb c 92) _ _ (λ t. escape (pair_escapes 92 c (ap Some (sym (eqb-true c 92 t)))))
    (λ g. choose_by Is-good (eqb c 0) _ _ (λ t. escape (pair_escapes 48 c (ap Some (sym (eqb-true c 0 t)))))
    (λ _. choose_by Is-good (eqb c 9) _ _ (λ t. escape (pair_escapes 116 c (ap Some (sym (eqb-true c 9 t)))))
    (λ _. choose_by Is-good (eqb c 10) _ _ (λ t. escape (pair_escapes 110 c (ap Some (sym (eqb-true c 10 t)))))
    (λ _. choose_by Is-good (eqb c 13) _ _ (λ t. escape (pair_escapes 114 c (ap Some (sym (eqb-true c 13 t)))))
    (λ _. choose_by Is-good (bare c) _ _ (λ t. itself refl (eqb-false c 92 g) (eqb-false c q f))
    (λ _.
    let b : c < 0x110000 = scalar_below c s in
    escape (hex_escapes c (omega arith)))))))))
