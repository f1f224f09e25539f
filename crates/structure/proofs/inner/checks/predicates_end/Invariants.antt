-- Invariant (`EndInv`): the predicates from the start on end where those from i on end. Each turn takes one `&` or `!`, so that the
-- tokens left fall; at any other token they end.
use Rattle.structure.proofs.Checks.{EndInv}
use lib.ListN.{length}
use Prim.Native.Nat.{◌-◌}
use Rattle.token.specs.Table.{toks}
use Rattle.structure.proofs.inner.checks.predicates_end.Given as goal

abbrev pub invariant-loop-i : goal.invariant-loop-i
invariant-loop-i l = EndInv l.text l.at l.i

abbrev pub decreases-loop-i : goal.decreases-loop-i
decreases-loop-i l = length (toks l.text) - l.i
