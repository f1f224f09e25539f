use Rattle.links.proofs.Naming.{every_stop, every_end}
use Rattle.links.specs.Program.{own_at}
use Rattle.table.proofs.Lowest.{lowest_none, lowest_more}
use native.Mathlib.Omega.{arith}
use mathlib.Core.Path.{sym, ◌∙◌}
use Rattle.links.proofs.inner.ready.own_names.Goals as goal

pub loop-k-init : goal.loop-k-init
loop-k-init c = lowest_none (own_at c.args.rules.now c.args.store.now)

pub returns-then-not-own_name : goal.returns-then-not-own_name
returns-then-not-own_name c = every_stop (own_at c.args.rules.now c.args.store.now) _ _ (omega arith) c.loop-k.invariant (sym c.own_name.ensures ∙ c.if-not-own_name.true)

pub loop-k-preserved : goal.loop-k-preserved
loop-k-preserved c = lowest_more (own_at c.args.rules.now c.args.store.now) _ c.loop-k.invariant (sym c.own_name.ensures ∙ c.if-not-own_name.false)

pub returns : goal.returns
returns c = every_end (own_at c.args.rules.now c.args.store.now) _ _ (omega arith) (omega arith) c.loop-k.invariant
