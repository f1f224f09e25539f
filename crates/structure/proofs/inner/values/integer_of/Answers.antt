-- By the kind: of a negative number the bytes behind `-` are read against 2^31, of any other all bytes against 2^31 - 1. A token has a byte at
-- least and lies inside the text (`spans`), so that both slices exist.
use Rattle.structure.proofs.Faults.{integer_negative, integer_positive}
use native.Mathlib.Omega.{arith}
use Rattle.token.proofs.Table.{spans}
use Rattle.structure.proofs.inner.values.integer_of.Goals as goal

pub overflow_add-b : goal.overflow_add-b
overflow_add-b c = let p = spans _ _ c.requires.at_in_bounds in let h = c.requires.lent.short in omega arith

pub slice_bounds-decimal_of-count : goal.slice_bounds-decimal_of-count
slice_bounds-decimal_of-count c = let p = spans _ _ c.requires.at_in_bounds in let h = c.requires.lent.short in omega arith

pub slice_bounds-decimal_of-start : goal.slice_bounds-decimal_of-start
slice_bounds-decimal_of-start c = let p = spans _ _ c.requires.at_in_bounds in let h = c.requires.lent.short in omega arith

pub slice_bounds-decimal_of-end : goal.slice_bounds-decimal_of-end
slice_bounds-decimal_of-end c = let p = spans _ _ c.requires.at_in_bounds in let h = c.requires.lent.short in omega arith

pub returns-then-kind_at-eq-NEGATIVE_NUMBER : goal.returns-then-kind_at-eq-NEGATIVE_NUMBER
returns-then-kind_at-eq-NEGATIVE_NUMBER c = integer_negative _ _ _ c.kind_at.ensures _ _ c.start_at-a.ensures c.end_at-z.ensures _ c.if-kind_at-eq-NEGATIVE_NUMBER.true c.decimal_of.ensures

pub slice_bounds-decimal_of-count-2 : goal.slice_bounds-decimal_of-count-2
slice_bounds-decimal_of-count-2 c = let p = spans _ _ c.requires.at_in_bounds in let h = c.requires.lent.short in omega arith

pub slice_bounds-decimal_of-start-2 : goal.slice_bounds-decimal_of-start-2
slice_bounds-decimal_of-start-2 c = let p = spans _ _ c.requires.at_in_bounds in let h = c.requires.lent.short in omega arith

pub slice_bounds-decimal_of-end-2 : goal.slice_bounds-decimal_of-end-2
slice_bounds-decimal_of-end-2 c = let p = spans _ _ c.requires.at_in_bounds in let h = c.requires.lent.short in omega arith

pub returns : goal.returns
returns c = integer_positive _ _ _ c.kind_at.ensures _ _ c.start_at-a.ensures c.end_at-z.ensures _ c.if-kind_at-eq-NEGATIVE_NUMBER.false c.decimal_of-2.ensures
