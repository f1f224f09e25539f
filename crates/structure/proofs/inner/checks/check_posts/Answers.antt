use Rattle.std.specs.Prelude.{Ok}
use Rattle.std.proofs.lemmas.Result.{err_from_is_err_and}
use Rattle.structure.proofs.Checks.{post_start, post_more, post_bad, post_done}
use mathlib.Core.Path.{◌∙◌, ap}
use native.Mathlib.Omega.{arith}
use Rattle.token.proofs.Table.{sizes}
use Rattle.structure.proofs.inner.checks.check_posts.Goals as goal

pub loop-n-init : goal.loop-n-init
loop-n-init c = post_start _ _

pub overflow_add-count : goal.overflow_add-count
overflow_add-count c = let i = post_more _ _ _ _ _ _ c.postfix_end.ensures (c.in_ok-n.was ∙ ap Ok c.in-Some.is) c.loop-n.invariant in let z = sizes _ _ c.requires in let f = i.2.from in omega arith

pub loop-n-smaller : goal.loop-n-smaller
loop-n-smaller c = let i = post_more _ _ _ _ _ _ c.postfix_end.ensures (c.in_ok-n.was ∙ ap Ok c.in-Some.is) c.loop-n.invariant in let a = i.0 in let b = i.1 in omega arith

pub loop-n-preserved : goal.loop-n-preserved
loop-n-preserved c = (post_more _ _ _ _ _ _ c.postfix_end.ensures (c.in_ok-n.was ∙ ap Ok c.in-Some.is) c.loop-n.invariant).2

pub returns-in_err-n : goal.returns-in_err-n
returns-in_err-n c = let p = err_from_is_err_and c.from_residual.result c.from_residual.ensures.1 in rw (p.1, p.2) (post_bad _ _ _ _ _ _ c.postfix_end.ensures c.in_err-n.was c.loop-n.invariant)

pub returns-in_default : goal.returns-in_default
returns-in_default c = post_done _ _ _ _ _ c.postfix_end.ensures (c.in_ok-n.was ∙ ap Ok c.in_default.is) c.loop-n.invariant
