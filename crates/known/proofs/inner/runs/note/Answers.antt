-- `noted` computes by the test that was made.
use Rattle.known.specs.Runs.{noted}
use borrow.Author.Tests.{eq-eqb, ne_eqb}
use Rattle.known.proofs.inner.runs.note.Goals as goal

pub returns-then-i-eq0 : goal.returns-then-i-eq0
unfolding noted
returns-then-i-eq0 c = rw (eq-eqb _ 0 c.if-i-eq0.true)

pub returns-else-i-eq0 : goal.returns-else-i-eq0
unfolding noted
returns-else-i-eq0 c = rw (ne_eqb _ 0 c.if-i-eq0.false)
