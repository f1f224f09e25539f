use Rattle.table.specs.Flat.{numbers_of}
use Rattle.records.proofs.inner.nodes.put_tag.Goals as goal

-- src/inner/nodes.rt:130:1
pub returns : goal.returns
unfolding numbers_of
returns c = c.put_node.ensures
