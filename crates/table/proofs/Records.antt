-- Laws of records by their numbers.
use mathlib.Core.Path.{◌≡◌, refl, ap}
use mathlib.Core.List.{List}
use mathlib.Core.Logic.{⊎_elim}
use Prim.Native.Nat.{ℕ, zero, suc, ◌+◌, ◌-◌, ◌≤◌, ◌<◌}
use native.Mathlib.Omega.{arith}
use lib.ListN.{get_or-eq_default}
use Rattle.text.proofs.Tests.{lt_or_ge}
use Rattle.table.specs.declared.Node.TheVariants.{Unknown}
use Rattle.table.specs.Record.{kinds, node_of, root_at}
use Rattle.table.specs.Check.{begin_at}

-- there is no kind from 20 on
kind_high : (k p q r : ℕ) → 20 ≤ k → node_of k p q r ≡ Unknown
unfolding node_of
kind_high k p q r h = ap (λ f. f p q r) (get_or-eq_default kinds (λ p q r. Unknown) {n = k} h)

kind_zero : (k p q r : ℕ) → k ≡ 0 → node_of k p q r ≡ Unknown
unfolding node_of
kind_zero k p q r e = rw e

-- a number that is none of 1 to n
abbrev pub Apart : ℕ → ℕ → Type 0
Apart k zero = Unit {0}
Apart k (suc n) = Apart k n × (k ≡ suc n → ⊥)

apart_past : (k n : ℕ) → Apart k n → 0 < k → n < k
apart_past k zero h l = l
apart_past k (suc n) h l = let p = apart_past k n h.0 l in let q = h.1 in omega arith

-- nor are there others but 1 to 19
pub kind_none : (k p q r : ℕ) → Apart k 19 → node_of k p q r ≡ Unknown
kind_none k p q r h = ⊎_elim (λ l. kind_zero k p q r (omega arith)) (λ g. kind_high k p q r (apart_past k 19 h g)) (lt_or_ge k 1)

pub begin_after : (rs : List ℕ) (k : ℕ) → (k ≡ 0 → ⊥) → begin_at rs k ≡ root_at rs (k - 1) + 1
begin_after rs zero h = absurd (h refl)
begin_after rs (suc k) h = let e : suc k - 1 ≡ k = omega arith in rw e
