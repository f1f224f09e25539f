-- Laws of hex digits.
use Rattle.std.specs.Prelude.{Some}
use Prim.Native.Nat.{ℕ, zero, suc, ◌+◌, ◌-◌, ◌/◌, ◌%◌, ◌≤◌, ◌<◌}
use mathlib.Core.Path.{◌≡◌, refl, ap, ◌∙◌}
use mathlib.Core.List.{[], ◌∷◌, ◌++◌}
use mathlib.Core.Logic.{⊎_elim}
use native.Mathlib.Omega.{arith}
use lib.ListN.{length, length-append}
use borrow.Author.Tests.{lt-ltb, le-ltb}
use Rattle.text.specs.Digits.{hex_of, hex_digit, hexes}
use Rattle.text.proofs.Tests.{lt_or_ge, within_yes, within_high}

pub hexes_none : (k c : ℕ) → k ≡ 0 → hexes k c ≡ []
unfolding hexes
hexes_none k c e = rw e

pub hexes_more : (k c : ℕ) → (k ≡ 0 → ⊥) → hexes k c ≡ hexes (k - 1) (c / 16) ++ (hex_digit (c % 16) ∷ [])
unfolding hexes
hexes_more zero c h = absurd (h refl)
hexes_more (suc k) c h =
    let e : suc k - 1 ≡ k = omega arith in
    rw e

pub length_hexes : (k c : ℕ) → length (hexes k c) ≡ k
unfolding hexes
length_hexes zero c = refl
length_hexes (suc k) c = length-append (hexes k (c / 16)) (hex_digit (c % 16) ∷ []) ∙ ap (λ (n : ℕ). n + 1) (length_hexes k (c / 16)) ∙ omega arith

pub digit_low : (d : ℕ) → d < 10 → hex_digit d ≡ 48 + d
unfolding hex_digit
digit_low d h = rw (lt-ltb d 10 h)

pub digit_high : (d : ℕ) → 10 ≤ d → hex_digit d ≡ 87 + d
unfolding hex_digit
digit_high d h = rw (le-ltb d 10 h)

hex_low : (x : ℕ) → 48 ≤ x → x ≤ 57 → hex_of x ≡ Some (x - 48)
unfolding hex_of
hex_low x l h = rw (within_yes 48 57 x l h)

hex_lower : (x : ℕ) → 97 ≤ x → x ≤ 102 → hex_of x ≡ Some (x - 87)
unfolding hex_of
hex_lower x l h =
    let a : 57 < x = omega arith in
    let b : 70 < x = omega arith in
    rw (within_high 48 57 x a, within_high 65 70 x b, within_yes 97 102 x l h)

-- a digit that was written is worth its value
pub digit_back : (d : ℕ) → d < 16 → hex_of (hex_digit d) ≡ Some d
digit_back d h =
    ⊎_elim (λ l. ap hex_of (digit_low d l) ∙ (hex_low (48 + d) (omega arith) (omega arith) ∙ ap Some (omega arith)))
    (λ l. ap hex_of (digit_high d l) ∙ (hex_lower (87 + d) (omega arith) (omega arith) ∙ ap Some (omega arith))) (lt_or_ge d 10)
