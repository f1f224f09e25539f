-- A range was read here, so that `..` and a second character follow (`range_read`): the token two further on lies in the list and is a character.
-- One record holds the two characters, and the store stays as it was (`range_built`).
use native.Mathlib.Omega.{arith}
use Rattle.build.proofs.Leaves.{range_read, bare_fits, range_built}
use Rattle.token.proofs.Table.{sizes}
use Rattle.build.proofs.inner.leaves.put_range.Goals as goal

pub overflow_add-i : goal.overflow_add-i
overflow_add-i c =
    let w = range_read _ _ c.requires.tree_room in
    let n = sizes _ _ c.requires.lent in
    omega arith

pub overflow_add-i-2 : goal.overflow_add-i-2
overflow_add-i-2 c =
    let w = range_read _ _ c.requires.tree_room in
    let n = sizes _ _ c.requires.lent in
    omega arith

pub character_at-y-requires : goal.character_at-y-requires
character_at-y-requires c = record {
  lent = c.requires.lent;
  at_value = (range_read _ _ c.requires.tree_room).0;
}

pub put_range-requires : goal.put_range-requires
put_range-requires c = bare_fits _ _ _ _ c.requires.lent.short _ _ _ _ c.start_at-a.ensures c.end_at-z.ensures _ _ _ _ _ _ (range_read _ _ c.requires.tree_room).2 c.requires.tree_room (omega arith) (omega arith) (omega arith)

pub overflow_add-result : goal.overflow_add-result
overflow_add-result c =
    let w = range_read _ _ c.requires.tree_room in
    let n = sizes _ _ c.requires.lent in
    omega arith

pub returns : goal.returns
returns c = range_built _ _ _ _ c.requires.lent.short _ _ _ _ c.start_at-a.ensures c.end_at-z.ensures _ _ _ _ _ _ (range_read _ _ c.requires.tree_room).2 c.character_at-x.ensures c.character_at-y.ensures _ c.put_range.ensures
