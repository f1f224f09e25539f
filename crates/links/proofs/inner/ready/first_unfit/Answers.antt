use Rattle.links.proofs.Naming.{fit_is, fault_stop, fault_end}
use Rattle.links.specs.Program.{fit_at}
use Rattle.table.proofs.Lowest.{lowest_none, lowest_more}
use native.Mathlib.Omega.{arith}
use mathlib.Core.Path.{sym, ◌∙◌}
use Rattle.links.proofs.inner.ready.first_unfit.Goals as goal

pub loop-i-init : goal.loop-i-init
loop-i-init c = lowest_none (fit_at c.args.nodes.now)

pub returns-then-not-is_fit : goal.returns-then-not-is_fit
returns-then-not-is_fit c = fault_stop (fit_at c.args.nodes.now) _ _ (omega arith) c.loop-i.invariant (sym (fit_is _ _ c.node_at.ensures c.is_fit.ensures) ∙ c.if-not-is_fit.true)

pub loop-i-preserved : goal.loop-i-preserved
loop-i-preserved c = lowest_more (fit_at c.args.nodes.now) _ c.loop-i.invariant (sym (fit_is _ _ c.node_at.ensures c.is_fit.ensures) ∙ c.if-not-is_fit.false)

pub returns : goal.returns
returns c = fault_end (fit_at c.args.nodes.now) _ _ (omega arith) (omega arith) c.loop-i.invariant
