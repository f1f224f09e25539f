-- The links of all nodes before the one at hand are written, and all their names are known.
use Rattle.links.proofs.Naming.{LinkedUpTo}
use Rattle.links.proofs.inner.ready.link_names.Given as goal

abbrev pub invariant-loop-i : goal.invariant-loop-i
invariant-loop-i l = LinkedUpTo l.nodes l.rules l.store l.links l.i
