-- What is kept lies in the buffer.
use lib.ListN.{length}
use Prim.Native.Nat.{◌≤◌}
use Rattle.lines.proofs.run.Given as goal

abbrev pub invariant-loop-turn : goal.invariant-loop-turn
invariant-loop-turn g l = l.kept.at ≤ length l.text
