use Rattle.structure.proofs.Wants.{want_here, want_missing}
use Rattle.structure.proofs.Steps.{inside_is, sees}
use native.Mathlib.Omega.{arith}
use Rattle.token.proofs.Table.{sizes}
use Rattle.structure.proofs.inner.tokens.expect.Goals as goal

pub overflow_add-result : goal.overflow_add-result
overflow_add-result c = let i = inside_is _ _ _ c.requires.k_nonzero (sees _ _ _ _ c.kind_at.ensures c.if-kind_at-k.true) in let z = sizes _ _ c.requires.lent in omega arith

pub returns-then-kind_at-k : goal.returns-then-kind_at-k
returns-then-kind_at-k c = want_here _ _ _ _ c.kind_at.ensures c.if-kind_at-k.true

pub returns : goal.returns
returns c = want_missing _ _ _ _ c.kind_at.ensures c.if-kind_at-k.false
