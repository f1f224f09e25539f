-- The table of RFC 3629's section 3 and the byte ranges of its section 4 agree.
use Rattle.std.specs.Prelude.{Some}
use Prim.Native.Nat.{ℕ, ◌+◌, ◌-◌, ◌*◌, ◌≤◌, ◌<◌}
use mathlib.Core.Path.{◌≡◌, refl}
use mathlib.Core.Bool.{true}
use mathlib.Core.List.{List, [], ◌∷◌, ◌++◌}
use mathlib.Core.Logic.{⊎_elim}
use native.Mathlib.Omega.{arith}
use lib.ListN.{length, take}
use Rattle.text.specs.Utf8.{scalar, char_of, Tail, Utf8Char, utf8_1, utf8_2, utf8_3_e0, utf8_3_e1, utf8_3_ed, utf8_3_ee, utf8_4_f0, utf8_4_f1, utf8_4_f4}
use Rattle.text.proofs.Tests.{lt_or_ge}
use Rattle.text.proofs.Decodes.{Found, one, two, three, four, found, scalar_is, scalar_low, scalar_high}
use Rattle.text.proofs.Encodes.{found_read, scalar_below}

three_ranges : (x y z c : ℕ) → 0xe0 ≤ x → x < 0xf0 → Tail y → Tail z → c ≡ ((x - 0xe0) * 64 + (y - 0x80)) * 64 + (z - 0x80) → 0x800 ≤ c → scalar c ≡ true
    → Utf8Char (x ∷ y ∷ z ∷ [])
three_ranges x y z c l h t u e s g =
    ⊎_elim
    (λ a.
    let k : x ≡ 0xe0 = omega arith in
    rw k (utf8_3_e0 {y = y} (omega arith) t.1 u))
    (λ a. ⊎_elim (λ b. utf8_3_e1 {x = x} a (omega arith) t u)
    (λ b. ⊎_elim
    (λ d.
    let k : x ≡ 0xed = omega arith in
    rw k (utf8_3_ed {y = y} t.0 (⊎_elim (λ v. omega arith) (λ v. omega arith) (scalar_is c g)) u))
    (λ d. utf8_3_ee {x = x} d (omega arith) t u) (lt_or_ge x 0xee)) (lt_or_ge x 0xed)) (lt_or_ge x 0xe1)

four_ranges : (x y z v c : ℕ) → 0xf0 ≤ x → Tail y → Tail z → Tail v → c ≡ (((x - 0xf0) * 64 + (y - 0x80)) * 64 + (z - 0x80)) * 64 + (v - 0x80) → 0x10000 ≤ c → c < 0x110000
    → Utf8Char (x ∷ y ∷ z ∷ v ∷ [])
four_ranges x y z v c l t u w e s g =
    ⊎_elim
    (λ a.
    let k : x ≡ 0xf0 = omega arith in
    rw k (utf8_4_f0 {y = y} (omega arith) t.1 u w))
    (λ a. ⊎_elim (λ b. utf8_4_f1 {x = x} a (omega arith) t u w)
    (λ b.
    let k : x ≡ 0xf4 = omega arith in
    rw k (utf8_4_f4 {y = y} t.0 (omega arith) u w)) (lt_or_ge x 0xf4)) (lt_or_ge x 0xf1)

found_ranges : {xs : List ℕ} {c n : ℕ} → Found xs c n → Utf8Char (take n xs)
found_ranges (one {x} h) = utf8_1 {x = x} (omega arith)
found_ranges (two {x} l h t e s g) = utf8_2 {x = x} (omega arith) (omega arith) t
found_ranges (three {x} {y} {z} {c} l h t u e s g) = three_ranges x y z c l h t u e s g
found_ranges (four {x} {y} {z} {t} {c} l h a u w e s g) = four_ranges x y z t c l a u w e s (scalar_below c g)

-- a sequence that the table finds is a UTF8-char of the ranges
pub char_in_ranges : (xs : List ℕ) (c n : ℕ) → char_of xs ≡ Some (c, n) → Utf8Char (take n xs)
char_in_ranges xs c n e = found_ranges (found xs c n e)

-- and a UTF8-char of the ranges, whatever follows it, is a sequence that the table finds
pub ranges_char : {b : List ℕ} → Utf8Char b → (ys : List ℕ) → (c : ℕ) × (char_of (b ++ ys) ≡ Some (c, length b))
ranges_char (utf8_1 {x} h) ys = (x, found_read (one {x = x} (omega arith)))
ranges_char (utf8_2 {x} {y} l h t) ys =
    let c : ℕ = (x - 0xc0) * 64 + (y - 0x80) in
    (c, found_read (two {x = x} (omega arith) (omega arith) t refl (omega arith) (scalar_low c (omega arith))))
ranges_char (utf8_3_e0 {y} {z} l h t) ys =
    let c : ℕ = ((0xe0 - 0xe0) * 64 + (y - 0x80)) * 64 + (z - 0x80) in
    (c, found_read (three {x = 0xe0} {y = y} (omega arith) (omega arith) (omega arith) t refl (omega arith) (scalar_low c (omega arith))))
ranges_char (utf8_3_e1 {x} {y} {z} l h t u) ys =
    let c : ℕ = ((x - 0xe0) * 64 + (y - 0x80)) * 64 + (z - 0x80) in
    (c, found_read (three {x = x} (omega arith) (omega arith) t u refl (omega arith) (scalar_low c (omega arith))))
ranges_char (utf8_3_ed {y} {z} l h t) ys =
    let c : ℕ = ((0xed - 0xe0) * 64 + (y - 0x80)) * 64 + (z - 0x80) in
    (c, found_read (three {x = 0xed} {y = y} (omega arith) (omega arith) (omega arith) t refl (omega arith) (scalar_low c (omega arith))))
ranges_char (utf8_3_ee {x} {y} {z} l h t u) ys =
    let c : ℕ = ((x - 0xe0) * 64 + (y - 0x80)) * 64 + (z - 0x80) in
    (c, found_read (three {x = x} (omega arith) (omega arith) t u refl (omega arith) (scalar_high c (omega arith) (omega arith))))
ranges_char (utf8_4_f0 {y} {z} {t} l h u w) ys =
    let c : ℕ = (((0xf0 - 0xf0) * 64 + (y - 0x80)) * 64 + (z - 0x80)) * 64 + (t - 0x80) in
    (c, found_read (four {x = 0xf0} {y = y} (omega arith) (omega arith) (omega arith) u w refl (omega arith) (scalar_high c (omega arith) (omega arith))))
ranges_char (utf8_4_f1 {x} {y} {z} {t} l h a u w) ys =
    let c : ℕ = (((x - 0xf0) * 64 + (y - 0x80)) * 64 + (z - 0x80)) * 64 + (t - 0x80) in
    (c, found_read (four {x = x} (omega arith) (omega arith) a u w refl (omega arith) (scalar_high c (omega arith) (omega arith))))
ranges_char (utf8_4_f4 {y} {z} {t} l h u w) ys =
    let c : ℕ = (((0xf4 - 0xf0) * 64 + (y - 0x80)) * 64 + (z - 0x80)) * 64 + (t - 0x80) in
    (c, found_read (four {x = 0xf4} {y = y} (omega arith) (omega arith) (omega arith) u w refl (omega arith) (scalar_high c (omega arith) (omega arith))))
