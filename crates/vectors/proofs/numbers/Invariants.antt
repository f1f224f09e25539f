-- k is at most the output's length, and the numbers left to put are those of the rest of the text (`NumbersInv`).
-- k is tested before each store, and goes up by at most 1.
use Prim.Native.Nat.{◌≤◌}
use lib.ListN.{length}
use Rattle.vectors.proofs.Buffers.{NumbersInv}
use Rattle.vectors.proofs.numbers.Given as goal

abbrev pub invariant-loop-b : goal.invariant-loop-b
invariant-loop-b l = (l.k ≤ length l.out) × NumbersInv l.s l.initial.out l.v l.out l.k l.b-index
