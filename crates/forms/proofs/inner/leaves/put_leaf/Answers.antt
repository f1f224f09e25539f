-- That a leaf is good puts a text inside the store and keeps both ends of a range below 0x110000.
use Rattle.forms.proofs.Leaves.{range_below}
use Rattle.table.proofs.Texts.{leaf_inside_lem}
use native.Mathlib.Omega.{arith}
use Rattle.forms.proofs.inner.leaves.put_leaf.Goals as goal

pub overflow_add-e : goal.overflow_add-e
overflow_add-e c = omega (arith, leaf_inside_lem _ _ _ _ (rw c.in-Text.is at c.requires.leaf_value))

pub slice_bounds-put_text-end : goal.slice_bounds-put_text-end
slice_bounds-put_text-end c = omega (arith, leaf_inside_lem _ _ _ _ (rw c.in-Text.is at c.requires.leaf_value))

pub put_range-requires-clause-x_bound : goal.put_range-requires-clause-x_bound
put_range-requires-clause-x_bound c = (range_below _ _ _ (rw c.in-Range.is at c.requires.leaf_value)).0

pub put_range-requires-clause-y_bound : goal.put_range-requires-clause-y_bound
put_range-requires-clause-y_bound c = (range_below _ _ _ (rw c.in-Range.is at c.requires.leaf_value)).1
