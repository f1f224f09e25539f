-- Nothing has to hold from turn to turn. Where the second call gives a token, the cursor stands further on and inside the text (`two_on`):
-- so what is left of the text falls. Any other answer is the last.
use Prim.Native.Nat.{◌-◌}
use lib.ListN.{length}
use Rattle.token_run.proofs.run_cursor.Given as goal

abbrev pub invariant-loop : goal.invariant-loop
invariant-loop l = Unit {0}

abbrev pub decreases-loop : goal.decreases-loop
decreases-loop l = length l.bytes - l.at
