-- The quote, the inside and the quote, one after the other, are the literal (`literal_wrote`).
-- Room for the literal is room for each of them in its turn (`open_room`, `inside_room`, `close_room`).
use Rattle.literal.proofs.Printed.{open_room, inside_room, close_room, literal_wrote}
use Rattle.literal.proofs.inner.shows.put_literal.Goals as goal

pub put_byte-a-requires : goal.put_byte-a-requires
put_byte-a-requires c = open_room _ _ c.requires

pub put_inside-b-requires : goal.put_inside-b-requires
put_inside-b-requires c = inside_room _ _ c.requires c.put_byte-a.ensures

pub put_byte-requires : goal.put_byte-requires
put_byte-requires c = close_room _ _ c.requires c.put_byte-a.ensures c.put_inside-b.ensures

pub returns : goal.returns
returns c = literal_wrote _ _ c.put_byte-a.ensures c.put_inside-b.ensures c.put_byte.ensures
