use Rattle.structure.proofs.Rules.{bar_here, bar_none}
use Rattle.structure.proofs.Leaves.{post_in}
use native.Mathlib.Omega.{arith}
use Rattle.token.proofs.Table.{sizes}
use Rattle.structure.proofs.inner.rules.past_bar.Goals as goal

pub overflow_add-result : goal.overflow_add-result
overflow_add-result c = let i = post_in _ _ _ c.kind_at.ensures 11 (omega arith) c.if-kind_at-eq-BAR.true in let z = sizes _ _ c.requires in omega arith

pub returns-then-kind_at-eq-BAR : goal.returns-then-kind_at-eq-BAR
returns-then-kind_at-eq-BAR c = bar_here _ _ _ c.kind_at.ensures c.if-kind_at-eq-BAR.true

pub returns : goal.returns
returns c = bar_none _ _ _ c.kind_at.ensures c.if-kind_at-eq-BAR.false
