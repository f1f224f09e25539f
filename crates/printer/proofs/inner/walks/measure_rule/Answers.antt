-- The parts of a rule are spent in another order than they are written, which is the same (`rule_spent`). In tables that aren't false the
-- name lies inside the store and the root's tree can be walked.
use Rattle.printer.proofs.Rules.{rule_spent, rule_inside, rule_tree}
use Rattle.printer.proofs.inner.walks.measure_rule.Goals as goal

pub measure-requires : goal.measure-requires
measure-requires c =
    let ns = c.args.nodes.now in
    let rs = c.args.rules.now in
    let st = c.args.store.now in
    let h = c.head_at-head.result in
    rule_tree c.args.style ns rs st c.args.k h c.head_at-head.ensures c.requires.valid c.requires.k_bound

pub returns : goal.returns
returns c =
    let ns = c.args.nodes.now in
    let rs = c.args.rules.now in
    let st = c.args.store.now in
    let h = c.head_at-head.result in
    rule_spent c.args.style ns rs st c.args.k h c.head_at-head.ensures (rule_inside c.args.style ns rs st c.args.k h c.head_at-head.ensures c.requires.valid c.requires.k_bound) _ c.spend.ensures c.spend-2.ensures c.spend_mark-frame.ensures c.measure.ensures
