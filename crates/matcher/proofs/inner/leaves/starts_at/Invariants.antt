-- After j bytes that are alike, the test is that of what is left of the text and of the line.
use Rattle.matcher.proofs.Leaves.{Same}
use Rattle.matcher.proofs.inner.leaves.starts_at.Given as goal

abbrev pub invariant-loop-j : goal.invariant-loop-j
invariant-loop-j l = Same l.fold l.store l.p l.n l.line l.at l.j
