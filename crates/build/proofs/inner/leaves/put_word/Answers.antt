-- The token's bytes lie in the text (`word_inside`) and go into the store; one record names that part of it.
-- Room for the leaf is room for both (`word_room`, `word_fits`), and together they are the leaf in the buffers (`word_built`).
use native.Mathlib.Omega.{arith}
use Rattle.build.proofs.Leaves.{word_inside, word_room, word_fits, word_built}
use Rattle.token.proofs.Table.{sizes}
use Rattle.build.proofs.inner.leaves.put_word.Goals as goal

pub put_bytes-end-requires : goal.put_bytes-end-requires
put_bytes-end-requires c = record {
  a_le_z = word_inside _ _ _ _ _ _ c.requires.lent.short c.requires.at_in_bounds c.requires.tree_room _ _ c.start_at-a.ensures c.end_at-z.ensures;
  room = word_room _ _ _ _ _ _ c.requires.lent.short c.requires.at_in_bounds c.requires.tree_room _ _ c.start_at-a.ensures c.end_at-z.ensures;
}

pub overflow_sub-z : goal.overflow_sub-z
overflow_sub-z c =
    let p = word_inside _ _ _ _ _ _ c.requires.lent.short c.requires.at_in_bounds c.requires.tree_room _ _ c.start_at-a.ensures c.end_at-z.ensures in
    omega arith

pub put_text-requires : goal.put_text-requires
put_text-requires c = word_fits _ _ _ _ _ _ c.requires.lent.short c.requires.at_in_bounds c.requires.tree_room _ _ c.start_at-a.ensures c.end_at-z.ensures

pub overflow_add-result : goal.overflow_add-result
overflow_add-result c =
    let n = sizes _ _ c.requires.lent in
    omega arith

pub returns : goal.returns
returns c = word_built _ _ _ _ _ _ c.requires.lent.short c.requires.at_in_bounds c.requires.tree_room _ _ c.start_at-a.ensures c.end_at-z.ensures _ _ _ c.put_bytes-end.ensures c.put_text.ensures
