use Rattle.vectors.proofs.Buffers.{appended_past, appended_is}
use Rattle.vectors.proofs.append.Goals as goal

pub returns-then-out-from-clause-left : goal.returns-then-out-from-clause-left
returns-then-out-from-clause-left c = appended_past _ _ _ c.if-out-from.true

pub returns-clause-left : goal.returns-clause-left
returns-clause-left c = appended_is _ _ _ _ _ c.if-out-from.false c.min-n.ensures c.copy_from_slice.ensures.after
