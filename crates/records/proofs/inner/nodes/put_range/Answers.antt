use Rattle.table.specs.Flat.{numbers_of}
use Rattle.records.proofs.inner.nodes.put_range.Goals as goal

-- src/inner/nodes.rt:111:1
pub returns : goal.returns
unfolding numbers_of
returns c = c.put_node.ensures
