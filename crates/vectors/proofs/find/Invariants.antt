-- The first byte sought from `at` on is the first from i on (`FindInv`).
use Prim.Native.Nat.{◌≤◌}
use lib.ListN.{length}
use Rattle.vectors.proofs.Vectors.{FindInv}
use Rattle.vectors.proofs.find.Given as goal

abbrev pub invariant-loop-i : goal.invariant-loop-i
invariant-loop-i l = l.at ≤ length l.s → FindInv l.s l.at l.b l.wanted l.i
