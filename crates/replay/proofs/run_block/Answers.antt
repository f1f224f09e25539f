use native.Mathlib.Omega.{arith}
use Rattle.replay.proofs.run_block.Goals as goal

pub loop-at-init : goal.loop-at-init
loop-at-init c = (omega arith, omega arith)

pub slice_bounds-ask-count : goal.slice_bounds-ask-count
slice_bounds-ask-count c = c.find-end.ensures.1 (omega arith)

pub slice_bounds-ask-start : goal.slice_bounds-ask-start
slice_bounds-ask-start c = c.find-end.ensures.1 (omega arith)

pub loop-at-smaller : goal.loop-at-smaller
loop-at-smaller c = omega (arith, c.find-end.ensures.1 (omega arith))

pub loop-at-preserved : goal.loop-at-preserved
loop-at-preserved c = (omega (arith, c.find-end.ensures.1 (omega arith)), omega arith)
