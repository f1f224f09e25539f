-- What the grammar's body hands on holds of whatever is read.
use Prim.Native.Nat.{ℕ, zero, suc}
use mathlib.Core.Path.{◌≡◌}
use mathlib.Core.List.{List}
use Rattle.table.specs.Tree.{Span, Tree}
use Rattle.structure.specs.declared.Level.{Level}
use Rattle.structure.specs.Structure.{Parsed, got, Call, body, weight, run, Run}
use Rattle.structure.proofs.Steps.{no_tree}

module _ (level : Level) (s : List ℕ) (Q : Call → Tree Span → ℕ → Type 0)
    (step : (go : Call → Parsed) → ((c : Call) (t : Tree Span) (n : ℕ) → go c ≡ got t n → Q c t n) → (c : Call) (t : Tree Span) (n : ℕ) → body level s go c ≡ got t n → Q c t n) where
  fueled : (k : ℕ) (c : Call) (t : Tree Span) (n : ℕ) → run level s k c ≡ got t n → Q c t n
  unfolding run
  fueled zero c t n e = no_tree e
  fueled (suc k) c t n e = step (run level s k) (fueled k) c t n e

  pub descent : (c : Call) (t : Tree Span) (n : ℕ) → Run level s c ≡ got t n → Q c t n
  unfolding Run
  descent c t n e = fueled (suc (weight s c)) c t n e
