-- How many hex digits a number needs.
use Prim.Native.Nat.{ℕ, suc, ◌+◌, ◌-◌, ◌*◌, ◌/◌, ◌^◌, ◌≤◌, ◌<◌}
use mathlib.Core.Path.{◌≡◌, refl, ap}
use mathlib.Core.Logic.{⊎_elim}
use native.Mathlib.Nat.{two-pow-succ, pow-le-pow_right, zero-lt-suc}
use native.Mathlib.Omega.{arith}
use lib.Count.{count_leading_zeros, leading_length}
use lib.Dec.{ltb}
use borrow.Author.Tests.{ltb-true, ltb-false}
use Rattle.text.proofs.Tests.{lt_or_ge}
use Rattle.text.proofs.Booleans.{choose_by}
use Rattle.literal.specs.Literals.{hex_count}

-- a number's length in bits, against a power of two
length_most : (m c k : ℕ) → 2 ^ m ≤ 2 * c + 1 → c < 2 ^ k → m ≤ k
length_most m c k a b =
    ⊎_elim
    (λ h.
    let p : 2 ^ suc k ≤ 2 ^ m = pow-le-pow_right (zero-lt-suc 1) h in
    absurd (omega (arith, two-pow-succ k)))
    (λ h. h) (lt_or_ge k m)

length_least : (m c k : ℕ) → c < 2 ^ m → 2 ^ k ≤ c → k < m
length_least m c k a b =
    ⊎_elim (λ h. h)
    (λ h.
    let p : 2 ^ m ≤ 2 ^ k = pow-le-pow_right (zero-lt-suc 1) h in
    absurd (omega arith))
    (lt_or_ge k m)

-- what the leading zeros say
abbrev Counted : ℕ → ℕ → Type 0
Counted n r = (n < 2 → 2 ≡ r) × (2 ≤ n → n ≡ r)

counted : (c m n : ℕ) → c < 16777216 → c < 2 ^ m → 2 ^ m ≤ 2 * c + 1 → n ≡ (m + 3) / 4 → Counted n (hex_count c)
unfolding hex_count
counted c m n h a b e =
    choose_by (Counted n) (ltb c 256) _ _
    (λ t.
    let p : m ≤ 8 = length_most m c 8 b (ltb-true c 256 t) in
    (λ _. refl, λ g. omega arith))
    (λ f. choose_by (Counted n) (ltb c 4096) _ _
    (λ t.
    let p : m ≤ 12 = length_most m c 12 b (ltb-true c 4096 t) in
    let q : 8 < m = length_least m c 8 a (ltb-false c 256 f) in
    (λ g. omega arith, λ g. omega arith))
    (λ f. choose_by (Counted n) (ltb c 65536) _ _
    (λ t.
    let p : m ≤ 16 = length_most m c 16 b (ltb-true c 65536 t) in
    let q : 12 < m = length_least m c 12 a (ltb-false c 4096 f) in
    (λ g. omega arith, λ g. omega arith))
    (λ f. choose_by (Counted n) (ltb c 1048576) _ _
    (λ t.
    let p : m ≤ 20 = length_most m c 20 b (ltb-true c 1048576 t) in
    let q : 16 < m = length_least m c 16 a (ltb-false c 65536 f) in
    (λ g. omega arith, λ g. omega arith))
    (λ f.
    let p : m ≤ 24 = length_most m c 24 b h in
    let q : 20 < m = length_least m c 20 a (ltb-false c 1048576 f) in
    (λ g. omega arith, λ g. omega arith)))))

pub by_zeros : (c : ℕ) → c < 16777216 → Counted ((32 - count_leading_zeros 32 c + 3) / 4) (hex_count c)
by_zeros c h =
    let k : c < 2 ^ 32 = omega arith in
    let s = leading_length 32 c k in
    let z : 32 - count_leading_zeros 32 c ≡ s.0 = omega (arith, s.1) in
    counted c s.0 ((32 - count_leading_zeros 32 c + 3) / 4) h s.2 s.3 (ap (λ (x : ℕ). (x + 3) / 4) z)

-- as few as the number needs, but at least two
pub record Fewest (c k : ℕ) : Type 0 where
  pub two : 2 ≤ k
  pub enough : c < 16 ^ k
  pub least : (j : ℕ) → 2 ≤ j → c < 16 ^ j → k ≤ j
  pub most : k ≤ 6

needs_more : (c k j : ℕ) → 16 ^ k ≤ c → c < 16 ^ j → suc k ≤ j
needs_more c k j a b =
    ⊎_elim (λ h. h)
    (λ h.
    let p : 16 ^ j ≤ 16 ^ k = pow-le-pow_right (zero-lt-suc 15) h in
    absurd (omega arith))
    (lt_or_ge k j)

pub fewest : (c : ℕ) → c < 16777216 → Fewest c (hex_count c)
unfolding hex_count
fewest c h =
    choose_by (Fewest c) (ltb c 256) _ _ (λ t. record { two = omega arith; enough = ltb-true c 256 t; least = λ j g b. g; most = omega arith })
    (λ f. choose_by (Fewest c) (ltb c 4096) _ _ (λ t. record { two = omega arith; enough = ltb-true c 4096 t; least = λ j g b. needs_more c 2 j (ltb-false c 256 f) b; most = omega arith })
    (λ f. choose_by (Fewest c) (ltb c 65536) _ _ (λ t. record { two = omega arith; enough = ltb-true c 65536 t; least = λ j g b. needs_more c 3 j (ltb-false c 4096 f) b; most = omega arith })
    (λ f. choose_by (Fewest c) (ltb c 1048576) _ _ (λ t. record { two = omega arith; enough = ltb-true c 1048576 t; least = λ j g b. needs_more c 4 j (ltb-false c 65536 f) b; most = omega arith })
    (λ f. record { two = omega arith; enough = h; least = λ j g b. needs_more c 5 j (ltb-false c 1048576 f) b; most = omega arith }))))
