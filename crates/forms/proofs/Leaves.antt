-- Range ends of leaves.
use Prim.Native.Nat.{ℕ, ◌<◌}
use mathlib.Core.Path.{◌≡◌}
use mathlib.Core.Bool.{true}
use mathlib.Core.List.{List}
use Rattle.text.proofs.Encodes.{scalar_below}
use Rattle.table.specs.declared.Leaf.TheVariants.{Range}
use Rattle.table.specs.Check.{good_leaf}
use Rattle.table.proofs.Texts.{range_scalars}

-- range ends are Unicode scalars
pub range_below : (st : List ℕ) (x y : ℕ) → good_leaf st (Range x y) ≡ true → (x < 0x110000) × (y < 0x110000)
range_below st x y g = let b = range_scalars st x y g in (scalar_below x b.0, scalar_below y b.1)
