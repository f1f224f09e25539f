-- Nothing has to hold from turn to turn. A token ends behind the place that was asked about, and inside the text (`next_in`):
-- so what is left of the text falls. Any other answer is the last.
use Prim.Native.Nat.{◌-◌}
use lib.ListN.{length}
use Rattle.token_run.proofs.run_list.Given as goal

abbrev pub invariant-loop-end : goal.invariant-loop-end
invariant-loop-end l = Unit {0}

abbrev pub decreases-loop-end : goal.decreases-loop-end
decreases-loop-end l = length l.bytes - l.at
