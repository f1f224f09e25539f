use lib.ListN.{length-set}
use native.Mathlib.Omega.{arith}
use mathlib.Core.Path.{sym, ◌∙◌}
use Rattle.table.specs.Check.{good_at}
use Rattle.table.proofs.Verdicts.{firsts_more, verdict_at}
use Rattle.table.proofs.Lowest.{lowest_more}
use Rattle.table.proofs.inner.heavy.lowest_from.Goals as goal

pub loop-i-preserved : goal.loop-i-preserved
loop-i-preserved c =
    let nodes = c.args.nodes.now in
    let store = c.args.texts.now.store.now in
    let v = verdict_at nodes store c.loop-i.i _ (sym c.first_of.ensures ∙ c.in-Some.is) in
    (lowest_more (good_at nodes store) _ c.loop-i.invariant.0 v.0, firsts_more _ (omega arith) c.loop-i.invariant.1 v.1, simp length-set c.loop-i.invariant.2)
