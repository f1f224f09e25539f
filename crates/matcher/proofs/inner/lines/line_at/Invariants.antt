-- From the start to the byte at hand there is no line end, so that the line is as long as what was passed and the rest of it.
use Rattle.matcher.proofs.Rows.{Before}
use Rattle.matcher.proofs.inner.lines.line_at.Given as goal

abbrev pub invariant-loop-i : goal.invariant-loop-i
invariant-loop-i l = Before l.text l.at l.i
