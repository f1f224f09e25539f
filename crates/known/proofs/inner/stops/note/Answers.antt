-- `noted` computes by the test that was made.
use Rattle.known.specs.Stops.{noted}
use borrow.Author.Tests.{lt-ltb, le-ltb}
use Rattle.known.proofs.inner.stops.note.Goals as goal

pub returns-then-i-lt4 : goal.returns-then-i-lt4
unfolding noted
returns-then-i-lt4 c = rw (lt-ltb _ 4 c.if-i-lt4.true)

pub returns-else-i-lt4 : goal.returns-else-i-lt4
unfolding noted
returns-else-i-lt4 c = rw (le-ltb _ 4 c.if-i-lt4.false)
