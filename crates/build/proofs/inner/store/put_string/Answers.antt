-- The slice of the text from a to z is the `between` of the contract, unfolded: what `put_unescaped` asks for and ensures of it is what is asked and ensured here.
use Rattle.token.specs.Table.{between}
use Rattle.build.proofs.inner.store.put_string.Goals as goal

pub put_unescaped-requires : goal.put_unescaped-requires
unfolding between
put_unescaped-requires c = record {
  s_value = c.requires.z_value;
  room = c.requires.room;
}

pub returns : goal.returns
unfolding between
returns c = c.put_unescaped.ensures
