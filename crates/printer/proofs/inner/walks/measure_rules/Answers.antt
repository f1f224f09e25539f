use Rattle.printer.proofs.Rules.{spent_begin, spent_more, spent_end}
use Rattle.forms.proofs.Measures.{spent_zero}
use native.Mathlib.Omega.{arith}
use mathlib.Core.Path.{◌∙◌}
use Rattle.printer.proofs.inner.walks.measure_rules.Goals as goal

pub loop-k-init : goal.loop-k-init
loop-k-init c = spent_begin _ _ _ _ _

pub returns-then-left-eq0 : goal.returns-then-left-eq0
returns-then-left-eq0 c = spent_zero _ _ c.if-left-eq0.true ∙ c.loop-k.invariant

pub loop-k-preserved : goal.loop-k-preserved
loop-k-preserved c = spent_more c.args.style c.args.nodes.now c.args.rules.now c.args.store.now c.loop-k.k _ (omega arith) c.measure_rule-left.ensures c.loop-k.invariant

pub returns : goal.returns
returns c = spent_end c.args.style c.args.nodes.now c.args.rules.now c.args.store.now _ (omega arith) c.loop-k.invariant
