use Rattle.token.specs.Table.{between}
use Rattle.build.proofs.inner.store.put_bytes.Goals as goal

pub put-requires : goal.put-requires
unfolding between
put-requires c = c.requires.room

pub returns : goal.returns
unfolding between
returns c = c.put.ensures
