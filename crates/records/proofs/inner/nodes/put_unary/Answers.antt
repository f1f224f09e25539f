-- Each of the ten operators has its kind, and the numbers that are put are its record (`unary_is`): a repetition's counts stand behind its child.
-- The child is the record before, which exists since `used` isn't 0.
use Rattle.records.proofs.Patches.{unary_is}
use Rattle.records.proofs.inner.nodes.put_unary.Goals as goal

pub returns-in-PosPred : goal.returns-in-PosPred
returns-in-PosPred c = unary_is _ _ _ _ _ _ c.in-PosPred.is c.put_node.ensures

pub returns-in-NegPred : goal.returns-in-NegPred
returns-in-NegPred c = unary_is _ _ _ _ _ _ c.in-NegPred.is c.put_node-in-NegPred.ensures

pub returns-in-Opt : goal.returns-in-Opt
returns-in-Opt c = unary_is _ _ _ _ _ _ c.in-Opt.is c.put_node-in-Opt.ensures

pub returns-in-Rep : goal.returns-in-Rep
returns-in-Rep c = unary_is _ _ _ _ _ _ c.in-Rep.is c.put_node-in-Rep.ensures

pub returns-in-RepOnce : goal.returns-in-RepOnce
returns-in-RepOnce c = unary_is _ _ _ _ _ _ c.in-RepOnce.is c.put_node-in-RepOnce.ensures

pub returns-in-RepExact : goal.returns-in-RepExact
returns-in-RepExact c = unary_is _ _ _ _ _ _ c.in-RepExact.is c.put_node-in-RepExact.ensures

pub returns-in-RepMin : goal.returns-in-RepMin
returns-in-RepMin c = unary_is _ _ _ _ _ _ c.in-RepMin.is c.put_node-in-RepMin.ensures

pub returns-in-RepMax : goal.returns-in-RepMax
returns-in-RepMax c = unary_is _ _ _ _ _ _ c.in-RepMax.is c.put_node-in-RepMax.ensures

pub returns-in-RepMinMax : goal.returns-in-RepMinMax
returns-in-RepMinMax c = unary_is _ _ _ _ _ _ c.in-RepMinMax.is c.put_node-in-RepMinMax.ensures

pub returns-in-Push : goal.returns-in-Push
returns-in-Push c = unary_is _ _ _ _ _ _ c.in-Push.is c.put_node-in-Push.ensures
