-- Invariant (`FaultInv`): the first fault of the text is the first from token i on, the token before being of kind `before`. A sound token is
-- passed; any fault is the first (`faults_stop`).
use Rattle.structure.proofs.Faults.{FaultInv}
use Rattle.structure.proofs.inner.values.faults.Given as goal

abbrev pub invariant-loop-i : goal.invariant-loop-i
invariant-loop-i l = FaultInv l.edition l.level l.text l.before l.i
