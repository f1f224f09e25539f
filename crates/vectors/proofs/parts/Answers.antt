use mathlib.Core.Path.{sym}
use native.Mathlib.Omega.{arith}
use lib.Seq.{length-take-le}
use borrow.Author.Rules.{rules}
use Rattle.vectors.proofs.Buffers.{parts_start, parts_stop, parts_more, parts_done}
use Rattle.vectors.proofs.parts.Goals as goal

pub loop-at-init : goal.loop-at-init
loop-at-init c = (search rules, search rules, search rules, parts_start _ _)

pub shape_of-out-then-s-colon : goal.shape_of-out-then-s-colon
shape_of-out-then-s-colon c = c.loop-at.invariant.1

pub returns-then-s-colon : goal.returns-then-s-colon
returns-then-s-colon c =
    let i = c.loop-at.invariant in
    record {
      counts = (i.0, sym (length-take-le _ _ i.0));
      left = parts_stop _ _ _ _ _ _ i.3 c.find-colon.ensures.2 c.if-s-colon.true;
    }

pub slice_bounds-unhex-count : goal.slice_bounds-unhex-count
slice_bounds-unhex-count c = c.find-comma.ensures.1 (omega arith)

pub slice_bounds-unhex-start : goal.slice_bounds-unhex-start
slice_bounds-unhex-start c = c.find-comma.ensures.1 (omega arith)

pub slice_bounds-number-count : goal.slice_bounds-number-count
slice_bounds-number-count c = c.find-colon.ensures.1 (omega arith)

pub slice_bounds-number-start : goal.slice_bounds-number-start
slice_bounds-number-start c = c.find-colon.ensures.1 (omega arith)

pub loop-at-smaller : goal.loop-at-smaller
loop-at-smaller c = omega (arith, c.find-colon.ensures.1 (omega arith), c.find-comma.ensures.1 (omega arith))

pub loop-at-preserved : goal.loop-at-preserved
loop-at-preserved c =
    let i = c.loop-at.invariant in (
      search rules,
      search rules,
      search rules,
      parts_more _ _ _ _ _ _ _ _ _ _ _ _ _ c.find-colon.ensures.2 c.if-s-colon.false (c.find-colon.ensures.1 (omega arith)) c.find-comma.ensures.2 (c.find-comma.ensures.1 (omega arith)) i.2 c.number.ensures c.unhex-n.ensures.left c.repeat-k.ensures.left i.3,
    )

pub shape_of-out : goal.shape_of-out
shape_of-out c = c.loop-at.invariant.1

pub returns : goal.returns
returns c =
    let i = c.loop-at.invariant in
    record {
      counts = (i.0, sym (length-take-le _ _ i.0));
      left = parts_done _ _ _ _ _ i.3 c.loop-at-test.false;
    }
