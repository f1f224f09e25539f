use borrow.Author.Rules.{rules}
use native.Mathlib.Omega.{arith}
use mathlib.Core.Path.{sym, ◌∙◌}
use borrow.Author.Tests.{eqb-true}
use Rattle.vectors.proofs.Buffers.{repeat_past, repeat_start, repeat_more, repeat_done, repeat_full, repeat_nothing}
use Rattle.vectors.proofs.repeat.Goals as goal

pub returns-then-out-from-clause-left : goal.returns-then-out-from-clause-left
returns-then-out-from-clause-left c = repeat_past _ _ _ _ c.if-out-from.true

pub loop-turn-init : goal.loop-turn-init
loop-turn-init c = (omega arith, repeat_start _ _ _ _ c.if-out-from.false)

pub returns-then-is_empty-clause-left : goal.returns-then-is_empty-clause-left
returns-then-is_empty-clause-left c = repeat_nothing _ _ _ _ c.if-out-from.false (eqb-true _ _ (sym c.is_empty.ensures ∙ c.if-is_empty.true))

pub returns-then-out-k-clause-left : goal.returns-then-out-k-clause-left
returns-then-out-k-clause-left c = repeat_full _ _ _ _ _ _ _ c.loop-turn.invariant.1 c.loop-turn.invariant.0 c.if-out-k.true

pub loop-turn-preserved : goal.loop-turn-preserved
loop-turn-preserved c = (search rules, repeat_more _ _ _ _ _ _ _ c.loop-turn.invariant.1 _ _ c.loop-turn-test.true c.append-k.ensures.left)

pub returns-clause-left : goal.returns-clause-left
returns-clause-left c = repeat_done _ _ _ _ _ _ _ c.loop-turn.invariant.1 c.loop-turn-test.false
