-- A slice with an end and one without are one kind; the fifth number tells which, and the numbers that are put are its record (`slice_is`).
use Rattle.records.proofs.Patches.{slice_is}
use Rattle.records.proofs.inner.nodes.put_slice.Goals as goal

-- src/inner/nodes.rt:119:1
pub returns-in-None : goal.returns-in-None
returns-in-None c = slice_is _ _ _ _ _ _ c.in-None.is c.put_node.ensures

-- src/inner/nodes.rt:119:1
pub returns-in-Some : goal.returns-in-Some
returns-in-Some c = slice_is _ _ _ _ _ _ c.in-Some.is c.put_node-in-Some.ensures
