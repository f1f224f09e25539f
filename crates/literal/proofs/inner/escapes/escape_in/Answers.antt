use Rattle.literal.specs.Escapes.{escape_of}
use Rattle.text.proofs.Tests.{at_byte}
use borrow.Author.Tests.{ne_eqb}
use Rattle.literal.proofs.inner.escapes.escape_in.Goals as goal

pub returns-then-s-at-ne92 : goal.returns-then-s-at-ne92
unfolding escape_of
returns-then-s-at-ne92 c = rw (at_byte _ _ c.requires, ne_eqb _ 92 c.if-s-at-ne92.true)

pub returns : goal.returns
returns c = c.escape_at.ensures
