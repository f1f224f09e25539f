-- Room for the record means that its row lies in the list (`over_room`), so that it may be put there. With no token nothing is stored.
use Rattle.stream.proofs.Writes.{over_room}
use Rattle.stream.proofs.passes.rooms.put.Goals as goal

pub put_token-requires : goal.put_token-requires
put_token-requires c = over_room c.args.list.now c.args.n c.in-Some.kind c.in-Some.start c.in-Some.end (rw c.in-Some.is at c.requires)

pub returns-in-Some : goal.returns-in-Some
returns-in-Some c = rw c.in-Some.is c.put_token.ensures
