-- As in `put_leaf`.
use Rattle.forms.proofs.Leaves.{range_below}
use Rattle.table.proofs.Texts.{leaf_inside_lem}
use native.Mathlib.Omega.{arith}
use Rattle.forms.proofs.inner.leaves.spend_leaf.Goals as goal

pub overflow_add-e : goal.overflow_add-e
overflow_add-e c = omega (arith, leaf_inside_lem _ _ _ _ (rw c.in-Text.is at c.requires))

pub slice_bounds-spend_text-end : goal.slice_bounds-spend_text-end
slice_bounds-spend_text-end c = omega (arith, leaf_inside_lem _ _ _ _ (rw c.in-Text.is at c.requires))

pub spend_range-requires-clause-x_bound : goal.spend_range-requires-clause-x_bound
spend_range-requires-clause-x_bound c = (range_below _ _ _ (rw c.in-Range.is at c.requires)).0

pub spend_range-requires-clause-y_bound : goal.spend_range-requires-clause-y_bound
spend_range-requires-clause-y_bound c = (range_below _ _ _ (rw c.in-Range.is at c.requires)).1
