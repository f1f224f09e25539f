-- Laws of the lowest index at which a test fails.
use Rattle.std.specs.Prelude.{ℕ, Option, Some, None}
use mathlib.Core.Path.{◌≡◌, refl, sym, ◌∙◌}
use mathlib.Core.Bool.{Bool, true, false}
use mathlib.Core.Logic.{⊎_elim}
use Prim.Native.Nat.{ℕ, zero, suc, ◌+◌, ◌<◌}
use native.Mathlib.Nat.{eq-or-lt_of_le}
use native.Mathlib.Numerals.{add-one}
use native.Mathlib.Omega.{arith}
use Rattle.table.specs.Check.{lowest_by, lowest}
use Rattle.table.proofs.Columns.{below_suc}

both : (c : Option ℕ) (g : Bool) (i : ℕ) → lowest_by c g i ≡ None → (c ≡ None) × (g ≡ true)
both None true i e = (refl, refl)
both None false i e = let z : ◌≡◌ {A = ℕ} 0 1 = cc in absurd (omega arith)
both (Some k) g i e = let z : ◌≡◌ {A = ℕ} 0 1 = cc in absurd (omega arith)

module _ (f : ℕ → Bool) where
  pub lowest_none : lowest f 0 ≡ None
  unfolding lowest
  lowest_none = refl

  pub lowest_more : (i : ℕ) → lowest f i ≡ None → f i ≡ true → lowest f (i + 1) ≡ None
  unfolding lowest
  lowest_more i h g = rw (add-one, lowest, h, g)

  -- the first failure stays the answer
  pub lowest_bad : (n i : ℕ) → i < n → lowest f i ≡ None → f i ≡ false → lowest f n ≡ Some i
  unfolding lowest
  lowest_bad zero i l h g = absurd (omega arith)
  lowest_bad (suc n) i l h g = ⊎_elim
      (λ e. let i≡n : i ≡ n = omega arith in rw (sym i≡n, lowest, h, g))
      (λ m. let b : lowest f n ≡ Some i = lowest_bad n i (omega arith) h g in rw (lowest, b))
      (eq-or-lt_of_le l)

  -- no failure: the test holds everywhere
  pub lowest_good : (n : ℕ) → lowest f n ≡ None → (k : ℕ) → k < n → f k ≡ true
  unfolding lowest
  lowest_good zero e k l = absurd (omega arith)
  lowest_good (suc n) e k l =
      let b = both (lowest f n) (f n) n e in
      below_suc (λ k. f k ≡ true) n (lowest_good n b.0) b.1 k l

  pub lowest_all : (n : ℕ) → ((k : ℕ) → k < n → f k ≡ true) → lowest f n ≡ None
  unfolding lowest
  lowest_all zero h = refl
  lowest_all (suc n) h =
      let b : lowest f n ≡ None = lowest_all n (λ k l. h k (omega arith)) in
      let g : f n ≡ true = h n (omega arith) in
      rw (lowest, b, g)

  -- the failure is one
  pub lowest_fails : (n k : ℕ) → lowest f n ≡ Some k → (k < n) × (f k ≡ false)
  unfolding lowest
  lowest_fails zero k e = let z : ◌≡◌ {A = ℕ} 0 1 = cc in absurd (omega arith)
  lowest_fails (suc n) k e = by (lowest f n) (f n) refl refl e (lowest_fails n k)
    where
      by : (c : Option ℕ) (g : Bool) → lowest f n ≡ c → f n ≡ g → lowest_by c g n ≡ Some k → (lowest f n ≡ Some k → (k < n) × (f k ≡ false)) → (k < suc n) × (f k ≡ false)
      by (Some j) g p q w ih = let r = ih (p ∙ w) in (omega (arith, r.0), r.1)
      by None true p q w ih = let z : ◌≡◌ {A = ℕ} 0 1 = cc in absurd (omega arith)
      by None false p q w ih = let z : n ≡ k = cc in (omega arith, rw z at q)
