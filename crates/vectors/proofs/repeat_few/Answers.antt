use lib.ListN.{length-set}
use native.Mathlib.Omega.{arith}
use Rattle.vectors.proofs.Buffers.{repeat_start, repeat_done, few_start, few_more, few_full, few_end}
use Rattle.vectors.proofs.repeat_few.Goals as goal

pub loop-turn-init : goal.loop-turn-init
loop-turn-init c = (c.requires, repeat_start _ _ _ _ c.requires)

pub loop-b-init : goal.loop-b-init
loop-b-init c = (c.loop-turn.invariant.0, few_start _ _ _ _ _ _ _ c.loop-turn.invariant.1 c.loop-turn-test.true c.loop-turn.invariant.0)

pub returns-then-out-k-clause-left : goal.returns-then-out-k-clause-left
returns-then-out-k-clause-left c = few_full _ _ _ _ _ _ _ _ c.loop-b.invariant.1 c.loop-b.invariant.0 c.if-out-k.true

pub loop-b-preserved : goal.loop-b-preserved
loop-b-preserved c = (simp length-set (omega arith), few_more _ _ _ _ _ _ _ _ c.loop-b.invariant.1 c.loop-b-test.true c.if-out-k.false)

pub loop-turn-preserved : goal.loop-turn-preserved
loop-turn-preserved c = (c.loop-b.invariant.0, few_end _ _ _ _ _ _ _ _ c.loop-b.invariant.1 c.loop-b-test.false)

pub returns-clause-left : goal.returns-clause-left
returns-clause-left c = repeat_done _ _ _ _ _ _ _ c.loop-turn.invariant.1 c.loop-turn-test.false
