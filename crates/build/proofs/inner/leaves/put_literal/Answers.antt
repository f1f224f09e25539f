-- The inside of the literal is the bytes from a + k to z - 1, which lie in the text (`string_inside`). What it means goes into the store, and one record names it.
-- Room for the leaf is room for both (`string_room`, `string_fits`), and together they are the leaf in the buffers (`string_built`).
use Rattle.build.proofs.Leaves.{string_inside, string_good, string_room, string_fits, string_built}
use Rattle.build.proofs.inner.leaves.put_literal.Goals as goal

pub put_string-end-requires : goal.put_string-end-requires
put_string-end-requires c =
    let quotes = string_inside _ _ _ _ _ _ _ _ c.requires.lent.short c.requires.at_bound c.requires.at_value c.requires.tree_room _ _ _ c.start_at-a.ensures c.end_at-z.ensures c.opening_of-k.ensures in
    record {
      a_le_z = (quotes.4, quotes.2);
      z_value = string_good _ _ _ _ _ _ _ _ c.requires.lent.short c.requires.at_bound c.requires.at_value c.requires.tree_room _ _ _ c.start_at-a.ensures c.end_at-z.ensures c.opening_of-k.ensures;
      room = string_room _ _ _ _ _ _ _ _ c.requires.lent.short c.requires.at_bound c.requires.at_value c.requires.tree_room _ _ _ c.start_at-a.ensures c.end_at-z.ensures c.opening_of-k.ensures;
    }

pub put_text-requires : goal.put_text-requires
put_text-requires c = (string_fits _ _ _ _ _ _ _ _ c.requires.lent.short c.requires.at_bound c.requires.at_value c.requires.tree_room _ _ _ c.start_at-a.ensures c.end_at-z.ensures c.opening_of-k.ensures _ _ c.put_string-end.ensures).1

pub returns : goal.returns
returns c = string_built _ _ _ _ _ _ _ _ c.requires.lent.short c.requires.at_bound c.requires.at_value c.requires.tree_room _ _ _ c.start_at-a.ensures c.end_at-z.ensures c.opening_of-k.ensures _ _ c.put_string-end.ensures _ c.put_text.ensures
