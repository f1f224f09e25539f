-- Each of the four sorts has its kind, 1, 2, 4 or 18, and the numbers that are put are its record (`text_is`).
use Rattle.records.proofs.Patches.{text_is}
use Rattle.records.proofs.inner.nodes.put_text.Goals as goal

pub returns-in-Str : goal.returns-in-Str
returns-in-Str c = text_is _ _ _ _ _ _ _ c.in-Str.is c.put_node.ensures

pub returns-in-Insens : goal.returns-in-Insens
returns-in-Insens c = text_is _ _ _ _ _ _ _ c.in-Insens.is c.put_node-in-Insens.ensures

pub returns-in-Ident : goal.returns-in-Ident
returns-in-Ident c = text_is _ _ _ _ _ _ _ c.in-Ident.is c.put_node-in-Ident.ensures

pub returns-in-PushLiteral : goal.returns-in-PushLiteral
returns-in-PushLiteral c = text_is _ _ _ _ _ _ _ c.in-PushLiteral.is c.put_node-in-PushLiteral.ensures
