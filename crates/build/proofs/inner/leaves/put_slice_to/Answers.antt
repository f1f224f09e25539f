-- A slice was read, so that its `]` is there, behind a second number (`to_read`) or at once (`open_read`).
-- Either way one record holds it, and the store stays as it was (`slice_to_built`, `slice_built`). The record has room, and its numbers fit (`bare_fits`).
use native.Mathlib.Omega.{arith}
use mathlib.Core.Path.{sym, ◌∙◌}
use Rattle.build.proofs.Leaves.{to_read, open_read, bare_fits, slice_built, slice_to_built}
use Rattle.token.proofs.Table.{sizes}
use Rattle.build.proofs.inner.leaves.put_slice_to.Goals as goal

pub integer_at-to-requires : goal.integer_at-to-requires
integer_at-to-requires c =
    let w = (to_read _ _ _ _ c.requires.tree_room (sym c.is_integer.ensures ∙ c.if-is_integer.true)).0 in
    record {
      lent = c.requires.lent;
      at_in_bounds = omega arith;
    }

pub overflow_add-i : goal.overflow_add-i
overflow_add-i c =
    let w = (to_read _ _ _ _ c.requires.tree_room (sym c.is_integer.ensures ∙ c.if-is_integer.true)).0 in
    let n = sizes _ _ c.requires.lent in
    omega arith

pub put_slice-requires : goal.put_slice-requires
put_slice-requires c = bare_fits _ _ _ _ c.requires.lent.short _ _ _ _ c.start_at-a.ensures c.end_at-z.ensures _ _ _ _ _ _ (to_read _ _ _ _ c.requires.tree_room (sym c.is_integer.ensures ∙ c.if-is_integer.true)).1 c.requires.tree_room (omega arith) (omega arith) (omega arith)

pub overflow_add-result : goal.overflow_add-result
overflow_add-result c =
    let w = (to_read _ _ _ _ c.requires.tree_room (sym c.is_integer.ensures ∙ c.if-is_integer.true)).0 in
    let n = sizes _ _ c.requires.lent in
    omega arith

pub overflow_add-result-then-is_integer : goal.overflow_add-result-then-is_integer
overflow_add-result-then-is_integer c =
    let w = (to_read _ _ _ _ c.requires.tree_room (sym c.is_integer.ensures ∙ c.if-is_integer.true)).0 in
    let n = sizes _ _ c.requires.lent in
    omega arith

pub returns-then-is_integer : goal.returns-then-is_integer
returns-then-is_integer c = slice_to_built _ _ _ _ c.requires.lent.short _ _ _ _ c.start_at-a.ensures c.end_at-z.ensures _ _ _ _ _ (to_read _ _ _ _ c.requires.tree_room (sym c.is_integer.ensures ∙ c.if-is_integer.true)).1 c.integer_at-to.ensures _ c.put_slice.ensures

pub put_slice-requires-2 : goal.put_slice-requires-2
put_slice-requires-2 c = bare_fits _ _ _ _ c.requires.lent.short _ _ _ _ c.start_at-a.ensures c.end_at-z-2.ensures _ _ _ _ _ _ (open_read _ _ _ _ c.requires.tree_room (sym c.is_integer.ensures ∙ c.if-is_integer.false)).1 c.requires.tree_room (omega arith) (omega arith) (omega arith)

pub overflow_add-result-2 : goal.overflow_add-result-2
overflow_add-result-2 c =
    let w = (open_read _ _ _ _ c.requires.tree_room (sym c.is_integer.ensures ∙ c.if-is_integer.false)).0 in
    let n = sizes _ _ c.requires.lent in
    omega arith

pub returns : goal.returns
returns c = slice_built _ _ _ _ c.requires.lent.short _ _ _ _ c.start_at-a.ensures c.end_at-z-2.ensures _ _ _ (open_read _ _ _ _ c.requires.tree_room (sym c.is_integer.ensures ∙ c.if-is_integer.false)).1 _ c.put_slice-2.ensures
