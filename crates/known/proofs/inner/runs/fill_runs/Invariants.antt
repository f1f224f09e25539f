-- The invariant: the table has the stops from i on, and the one of i is at hand (`Filled`).
use Rattle.known.proofs.Runs.{Filled}
use Rattle.known.proofs.inner.runs.fill_runs.Given as goal

abbrev pub invariant-loop-i : goal.invariant-loop-i
invariant-loop-i l = Filled l.store l.runs l.i l.stop
