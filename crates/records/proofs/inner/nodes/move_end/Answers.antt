-- A tree's last record is its root's, and the third number of a record is its end.
-- So this one store makes the records of any tree, written last, those of the tree with that end (`end_record`).
use Rattle.records.proofs.Patches.{end_record}
use Rattle.records.proofs.inner.nodes.move_end.Goals as goal

pub returns : goal.returns
returns c = end_record _ _ _ c.requires.1
