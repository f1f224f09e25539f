use Rattle.structure.proofs.Rules.{docs_more, docs_done}
use native.Mathlib.Omega.{arith}
use Rattle.token.proofs.Table.{sizes}
use Rattle.structure.proofs.inner.rules.docs_end.Goals as goal

pub overflow_add-i : goal.overflow_add-i
overflow_add-i c = let i = (docs_more _ _ _ c.kind_at.ensures c.loop-i-test.true c.loop-i.invariant).0 in let z = sizes _ _ c.requires in omega arith

pub loop-i-smaller : goal.loop-i-smaller
loop-i-smaller c = let i = (docs_more _ _ _ c.kind_at.ensures c.loop-i-test.true c.loop-i.invariant).0 in omega arith

pub loop-i-preserved : goal.loop-i-preserved
loop-i-preserved c = (docs_more _ _ _ c.kind_at.ensures c.loop-i-test.true c.loop-i.invariant).1

pub returns : goal.returns
returns c = docs_done _ _ _ c.kind_at.ensures c.loop-i-test.false c.loop-i.invariant
