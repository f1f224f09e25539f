-- The invariant: the table has the stops from i on, and the next four are at hand (`Filled`).
use Rattle.known.proofs.Stops.{Filled}
use Rattle.known.proofs.inner.stops.fill_stops.Given as goal

abbrev pub invariant-loop-i : goal.invariant-loop-i
invariant-loop-i l = Filled l.store l.stops l.i l.s1 l.s2 l.s3 l.s4
