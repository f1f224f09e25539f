-- The rule of the fixed table of classes: one computed test over all entries.
use Prim.Native.Nat.{ℕ, ◌<◌}
use mathlib.Core.Path.{◌≡◌}
use mathlib.Core.Bool.{Bool}
use lib.Dec.{eqb, eqb→eq}
use lib.ListN.{get_or}
use Rattle.text.specs.Classes.{classes, class_of}
use Rattle.text.proofs.Table.{at}

right : (ℕ → ℕ) → ℕ → ℕ → Bool
right f k x = eqb x (f k)

pub class_rule : (b : ℕ) → b < 256 → get_or classes b 0 ≡ class_of b
unfolding right class_of
class_rule b h = eqb→eq (get_or classes b 0) (class_of b) (at (right class_of) classes tt b h)
