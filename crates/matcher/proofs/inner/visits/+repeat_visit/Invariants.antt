-- A visit's returns and turns are the laws of Arms, each at the facts that led there; the nested visits that are left fall at each call.
use Rattle.matcher.proofs.Arms.{Round, Held}
use Prim.Native.Nat.{◌+◌, ◌*◌}
use Rattle.matcher.proofs.inner.visits.+repeat_visit.Given as goal

abbrev pub decreases-repeat : goal.decreases-repeat
decreases-repeat l = 2 * l.depth + 1

abbrev pub decreases-visit : goal.decreases-visit
decreases-visit l = 2 * l.depth

abbrev pub invariant-repeat-loop-most : goal.invariant-repeat-loop-most
invariant-repeat-loop-most l = Round l.nodes l.links l.store l.line l.c l.least l.most l.start l.depth l.allowed l.at l.left l.n

abbrev pub decreases-repeat-loop-most : goal.decreases-repeat-loop-most
decreases-repeat-loop-most l = l.left

abbrev pub invariant-visit-loop-deep : goal.invariant-visit-loop-deep
invariant-visit-loop-deep l = Held l.nodes l.links l.store l.line l.start l.from l.depth l.allowed l.i l.at l.deep l.left

abbrev pub decreases-visit-loop-deep : goal.decreases-visit-loop-deep
decreases-visit-loop-deep l = l.deep
