-- Seven stores at NODE_SIZE * index and the six places behind it are one record written (`put_is`).
-- None of them changes the length, so that the room for seven numbers, which is asked for, is there for each.
use mathlib.Core.Path.{refl}
use native.Mathlib.Omega.{arith}
use lib.ListN.{length-set}
use Rattle.records.proofs.Patches.{put_is}
use Rattle.records.proofs.inner.nodes.put_node.Goals as goal

pub bounds-nodes-i-2 : goal.bounds-nodes-i-2
bounds-nodes-i-2 c = simp length-set (omega arith)

pub bounds-nodes-i-3 : goal.bounds-nodes-i-3
bounds-nodes-i-3 c = simp length-set (omega arith)

pub bounds-nodes-i-4 : goal.bounds-nodes-i-4
bounds-nodes-i-4 c = simp length-set (omega arith)

pub bounds-nodes-i-5 : goal.bounds-nodes-i-5
bounds-nodes-i-5 c = simp length-set (omega arith)

pub bounds-nodes-i-6 : goal.bounds-nodes-i-6
bounds-nodes-i-6 c = simp length-set (omega arith)

pub bounds-nodes-i-7 : goal.bounds-nodes-i-7
bounds-nodes-i-7 c = simp length-set (omega arith)

pub returns : goal.returns
returns c = put_is _ _ _ _ _ _ _ _ _ _ refl
