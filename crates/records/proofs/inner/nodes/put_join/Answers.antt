-- Each of the two joins has its kind, 8 or 9, and the numbers that are put are its record (`join_is`).
-- Their fit follows from Over: the right child is the record before, so that it exists and its index fits 32 bits.
use Rattle.records.proofs.Patches.{join_is}
use Rattle.records.proofs.inner.nodes.put_join.Goals as goal

pub returns-in-Seq : goal.returns-in-Seq
returns-in-Seq c = join_is _ _ _ _ _ _ _ c.in-Seq.is c.put_node.ensures

pub returns-in-Choice : goal.returns-in-Choice
returns-in-Choice c = join_is _ _ _ _ _ _ _ c.in-Choice.is c.put_node-in-Choice.ensures
