-- A tree's last record is its root's, and the second number of a record is its start.
-- So this one store makes the records of any tree, written last, those of the tree with that start (`start_record`).
use Rattle.records.proofs.Patches.{start_record}
use Rattle.records.proofs.inner.nodes.move_start.Goals as goal

pub returns : goal.returns
returns c = start_record _ _ _ c.requires.1
