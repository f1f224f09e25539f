use Rattle.structure.proofs.Rules.{mark_inside}
use native.Mathlib.Omega.{arith}
use Rattle.token.proofs.Table.{sizes}
use Rattle.structure.proofs.inner.rules.past_mark.Goals as goal

pub overflow_add-result : goal.overflow_add-result
overflow_add-result c = let i = mark_inside _ _ _ c.mark_at.ensures c.if-mark_at-eq0.false in let z = sizes _ _ c.requires in omega arith
