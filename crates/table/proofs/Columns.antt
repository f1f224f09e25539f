-- Laws of columns.
use mathlib.Core.Path.{◌≡◌, refl, ◌∙◌}
use mathlib.Core.List.{List, [], ◌∷◌}
use mathlib.Core.Logic.{⊎_elim}
use Prim.Native.Nat.{ℕ, zero, suc, ◌<◌}
use native.Mathlib.Nat.{eq-or-lt_of_le}
use native.Mathlib.Omega.{arith}
use lib.ListN.{length, get_or, length-append, get_or-append}
use lib.Seq.{get_or_at}
use Rattle.table.specs.Record.{column, entry}

-- what holds of each number below n, and of n, holds of each below n + 1
pub below_suc : (P : ℕ → Type 0) (n : ℕ) → ((k : ℕ) → k < n → P k) → P n → (k : ℕ) → k < suc n → P k
below_suc P n h p k l = ⊎_elim
    (λ e. let k≡n : k ≡ n = omega arith in rw k≡n p)
    (λ m. h k (omega arith))
    (eq-or-lt_of_le l)

module _ {A : Type 0} (f : List A → ℕ → A) where
  pub length_column : (n : ℕ) → length (column f n) ≡ n
  unfolding column
  length_column zero = refl
  length_column (suc n) = length-append (column f n) (f (column f n) n ∷ []) ∙ omega (arith, length_column n)

  -- an entry is what is made of those before it
  pub column_at : (d : A) (n k : ℕ) → k < n → get_or (column f n) k d ≡ entry f k
  unfolding column
  column_at d zero k h = absurd (omega arith)
  column_at d (suc n) k h = below_suc (λ k. get_or (column f (suc n)) k d ≡ entry f k) n
      (λ k l. get_or-append (column f n) (f (column f n) n ∷ []) d k (omega (arith, length_column n)) ∙ column_at d n k l)
      (get_or_at (column f n) (f (column f n) n) [] d n (length_column n))
      k h

  -- what holds of each entry, if it holds of what is made of entries of which it holds
  pub column_all : (P : ℕ → A → Type 0) → ((i : ℕ) → ((k : ℕ) → k < i → P k (entry f k)) → P i (entry f i)) → (n k : ℕ) → k < n → P k (entry f k)
  column_all P step zero k h = absurd (omega arith)
  column_all P step (suc n) k h = below_suc (λ k. P k (entry f k)) n (column_all P step n) (step n (column_all P step n)) k h
