use mathlib.Core.Logic.{inl, inr}
use Rattle.structure.proofs.Leaves.{post_some, integer_here, integer_none}
use native.Mathlib.Omega.{arith}
use Rattle.token.proofs.Table.{sizes}
use Rattle.structure.proofs.inner.leaves.past_integer.Goals as goal
use Rattle.structure.proofs.inner.leaves.past_integer.Goals.{then-k-eq-NUMBER-via-then-k-eq-NUMBER, then-k-eq-NUMBER-via-else-k-eq-NUMBER+then-k-eq-NEGATIVE_NUMBER}

pub overflow_add-result : goal.overflow_add-result
overflow_add-result c =
    let i = post_some _ _ _ c.kind_at-k.ensures (elim c.then-k-eq-NUMBER.branch [ then-k-eq-NUMBER-via-then-k-eq-NUMBER w ↦ omega (arith, w.if-k-eq-NUMBER.true) | then-k-eq-NUMBER-via-else-k-eq-NUMBER+then-k-eq-NEGATIVE_NUMBER w ↦ omega (arith, w.if-k-eq-NEGATIVE_NUMBER.true) ]) in
    let z = sizes _ _ c.requires in
    omega arith

pub returns-then-k-eq-NUMBER : goal.returns-then-k-eq-NUMBER
returns-then-k-eq-NUMBER c = integer_here _ _ _ c.kind_at-k.ensures (elim c.then-k-eq-NUMBER.branch [ then-k-eq-NUMBER-via-then-k-eq-NUMBER w ↦ inl w.if-k-eq-NUMBER.true | then-k-eq-NUMBER-via-else-k-eq-NUMBER+then-k-eq-NEGATIVE_NUMBER w ↦ inr w.if-k-eq-NEGATIVE_NUMBER.true ])

pub returns : goal.returns
returns c = integer_none _ _ _ c.kind_at-k.ensures c.if-k-eq-NUMBER.false c.if-k-eq-NEGATIVE_NUMBER.false
