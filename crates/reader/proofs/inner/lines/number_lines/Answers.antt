use native.Mathlib.Omega.{arith}
use Rattle.reader.proofs.Lines.{numbering_more}
use Rattle.reader.proofs.inner.lines.number_lines.Goals as goal

pub loop-i-preserved : goal.loop-i-preserved
loop-i-preserved c = (numbering_more c.loop-i.invariant.0 c.number_line-last.ensures.table (omega (arith, c.loop-i.invariant.0.long)), c.number_line-last.ensures.mark)
