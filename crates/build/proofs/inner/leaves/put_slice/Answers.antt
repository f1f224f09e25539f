-- With a first number or without one, a slice was read, so that its `..` is there and the rest of it is a `slice_to` (`from_read`, `start_read`).
-- So the room for it is what `put_slice_to` asks for, and what that builds is the slice (`room_same`, `built_same`).
use native.Mathlib.Omega.{arith}
use mathlib.Core.Path.{sym, ◌∙◌}
use Rattle.build.proofs.Leaves.{from_read, start_read, room_same, built_same, slice_from}
use Rattle.token.proofs.Table.{sizes}
use Rattle.build.proofs.inner.leaves.put_slice.Goals as goal

pub integer_at-from-requires : goal.integer_at-from-requires
integer_at-from-requires c =
    let w = (from_read _ _ _ c.requires.tree_room (sym c.is_integer.ensures ∙ c.if-is_integer.true)).0 in
    record {
      lent = c.requires.lent;
      at_in_bounds = omega arith;
    }

pub overflow_add-i : goal.overflow_add-i
overflow_add-i c =
    let w = (from_read _ _ _ c.requires.tree_room (sym c.is_integer.ensures ∙ c.if-is_integer.true)).0 in
    let n = sizes _ _ c.requires.lent in
    omega arith

pub overflow_add-i-then-is_integer : goal.overflow_add-i-then-is_integer
overflow_add-i-then-is_integer c =
    let w = (from_read _ _ _ c.requires.tree_room (sym c.is_integer.ensures ∙ c.if-is_integer.true)).0 in
    let n = sizes _ _ c.requires.lent in
    omega arith

pub put_slice_to-requires : goal.put_slice_to-requires
put_slice_to-requires c = record {
  lent = c.requires.lent;
  tree_room = room_same ((from_read _ _ _ c.requires.tree_room (sym c.is_integer.ensures ∙ c.if-is_integer.true)).1 ∙ slice_from _ _ _ _ _ c.integer_at-from.ensures) c.requires.tree_room;
}

pub returns-then-is_integer : goal.returns-then-is_integer
returns-then-is_integer c = built_same ((from_read _ _ _ c.requires.tree_room (sym c.is_integer.ensures ∙ c.if-is_integer.true)).1 ∙ slice_from _ _ _ _ _ c.integer_at-from.ensures) c.put_slice_to.ensures

pub overflow_add-i-2 : goal.overflow_add-i-2
overflow_add-i-2 c =
    let w = (start_read _ _ _ c.requires.tree_room (sym c.is_integer.ensures ∙ c.if-is_integer.false)).0 in
    let n = sizes _ _ c.requires.lent in
    omega arith

pub put_slice_to-requires-2 : goal.put_slice_to-requires-2
put_slice_to-requires-2 c = record {
  lent = c.requires.lent;
  tree_room = room_same (start_read _ _ _ c.requires.tree_room (sym c.is_integer.ensures ∙ c.if-is_integer.false)).1 c.requires.tree_room;
}

pub returns : goal.returns
returns c = built_same (start_read _ _ _ c.requires.tree_room (sym c.is_integer.ensures ∙ c.if-is_integer.false)).1 c.put_slice_to-2.ensures
