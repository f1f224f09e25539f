-- What has come lies in the buffer, and whole lines in what has come.
use lib.ListN.{length-take}
use lib.Seq.{length-take-le}
use native.Mathlib.Omega.{arith}
use mathlib.Core.Path.{sym}
use Rattle.rows.proofs.Blocks.{whole_inside}
use Rattle.lines.proofs.take_turn.Goals as goal

pub slice_bounds-answer-end-2 : goal.slice_bounds-answer-end-2
slice_bounds-answer-end-2 g c = omega (arith, simp length-take at (whole_inside _ c.whole_lines-whole.ensures))

pub slice_bounds-answer-end-3 : goal.slice_bounds-answer-end-3
slice_bounds-answer-end-3 g c = sym (length-take-le _ _ (omega (arith, simp length-take at (whole_inside _ c.whole_lines-whole.ensures))))

pub copy_within-requires-clause-start_le_end : goal.copy_within-requires-clause-start_le_end
copy_within-requires-clause-start_le_end g c = omega (arith, simp length-take at (whole_inside _ c.whole_lines-whole.ensures))

pub overflow_sub-result : goal.overflow_sub-result
overflow_sub-result g c = omega (arith, simp length-take at (whole_inside _ c.whole_lines-whole.ensures))
