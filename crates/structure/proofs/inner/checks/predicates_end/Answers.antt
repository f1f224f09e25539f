-- A predicate is a token, of which there are few.
use mathlib.Core.Path.{sym, ◌∙◌}
use native.Mathlib.Omega.{arith}
use Rattle.token.proofs.Table.{sizes}
use Rattle.structure.proofs.Checks.{sign_inside}
use Rattle.structure.proofs.inner.checks.predicates_end.Goals as goal

pub overflow_add-i : goal.overflow_add-i
overflow_add-i c =
    let i = sign_inside _ _ (sym c.is_predicate.ensures ∙ c.loop-i-test.true) in
    let z = sizes _ _ c.requires in
    omega arith

pub loop-i-smaller : goal.loop-i-smaller
loop-i-smaller c = let i = sign_inside _ _ (sym c.is_predicate.ensures ∙ c.loop-i-test.true) in omega arith
