-- The sum is the bound of the first i nodes, and at most i times 2^41, so that no addition overflows. `nodes_more` adds a node. `Narrow`
-- holds because a slice of u32 has no wider numbers.
use Rattle.printer.specs.Bounds.{nodes_most}
use mathlib.Core.Path.{◌≡◌}
use Prim.Native.Nat.{◌*◌, ◌≤◌}
use Rattle.printer.proofs.inner.bounds.nodes_most.Given as goal

abbrev pub invariant-loop-i : goal.invariant-loop-i
invariant-loop-i l = (l.sum ≡ nodes_most l.nodes l.i) × (l.sum ≤ l.i * 0x200_0000_0000)
