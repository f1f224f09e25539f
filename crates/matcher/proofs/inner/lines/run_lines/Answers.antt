use mathlib.Core.Path.{refl}
use native.Mathlib.Omega.{arith}
use Rattle.matcher.proofs.Rows.{line_inside, done_none, done_more, done_text, now_text, done_full, now_full}
use Rattle.matcher.proofs.inner.lines.run_lines.Goals as goal

pub loop-k-init : goal.loop-k-init
loop-k-init c = done_none _ _ _ _ refl

pub shape_of-records-then-n-at : goal.shape_of-records-then-n-at
shape_of-records-then-n-at c = c.loop-k.invariant.long

pub returns-then-n-at : goal.returns-then-n-at
returns-then-n-at c = record {
  value = done_text _ _ _ _ _ _ _ c.loop-k.invariant (omega arith);
  records_after = now_text _ _ _ _ _ _ _ c.loop-k.invariant (omega arith);
}

pub line_at-line-requires : goal.line_at-line-requires
line_at-line-requires c = c.loop-k.invariant.inside

pub slice_bounds-run_line-count : goal.slice_bounds-run_line-count
slice_bounds-run_line-count c = (line_inside c.args.text.now c.loop-k.at c.loop-k.invariant.inside c.line_at-line.ensures).0

pub slice_bounds-run_line-start : goal.slice_bounds-run_line-start
slice_bounds-run_line-start c = (line_inside c.args.text.now c.loop-k.at c.loop-k.invariant.inside c.line_at-line.ensures).0

pub slice_bounds-run_line-end : goal.slice_bounds-run_line-end
slice_bounds-run_line-end c = (line_inside c.args.text.now c.loop-k.at c.loop-k.invariant.inside c.line_at-line.ensures).1

pub run_line-answer-requires : goal.run_line-answer-requires
run_line-answer-requires c = record {
  runnable = c.requires.runnable;
  root_bound = c.requires.root_bound;
}

pub overflow_mul-k : goal.overflow_mul-k
overflow_mul-k c = omega (arith, c.loop-k.invariant.room, c.loop-k.invariant.long)

pub put_row-requires : goal.put_row-requires
put_row-requires c = omega (arith, c.loop-k.invariant.room, c.loop-k.invariant.long)

pub loop-k-preserved : goal.loop-k-preserved
loop-k-preserved c = done_more _ _ _ _ _ _ _ c.loop-k.invariant (omega arith) (omega arith) c.line_at-line.ensures c.run_line-answer.ensures c.row_of.ensures c.put_row.ensures

pub shape_of-records : goal.shape_of-records
shape_of-records c = c.loop-k.invariant.long

pub returns : goal.returns
returns c = record {
  value = done_full _ _ _ _ _ _ _ c.loop-k.invariant (omega arith);
  records_after = now_full _ _ _ _ _ _ _ c.loop-k.invariant (omega arith);
}
