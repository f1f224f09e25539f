use Prim.Native.Nat.{ℕ}
use mathlib.Core.Path.{ap}
use lib.Dec.{eqb}
use Rattle.text.proofs.inner.words.starts_word.Goals as goal

pub returns : goal.returns
returns c = ap (λ (k : ℕ). eqb k 2) c.class.ensures
