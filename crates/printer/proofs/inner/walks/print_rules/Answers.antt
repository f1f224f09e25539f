use Rattle.printer.proofs.Rules.{rest_step, same_begin, same_last}
use Rattle.text.proofs.Walks.{same_step, same_room}
use native.Mathlib.Omega.{arith}
use Rattle.printer.proofs.inner.walks.print_rules.Goals as goal

pub loop-k-init : goal.loop-k-init
loop-k-init c = same_begin _ _ _ _ _ _

pub print_rule-a-requires : goal.print_rule-a-requires
print_rule-a-requires c = record {
  valid = c.requires.valid;
  k_bound = omega arith;
  room = same_room _ c.loop-k.invariant (rest_step c.args.style c.args.nodes.now c.args.rules.now c.args.store.now c.loop-k.k (omega arith)) c.requires.room;
}

pub loop-k-preserved : goal.loop-k-preserved
loop-k-preserved c = same_step _ c.loop-k.invariant (rest_step c.args.style c.args.nodes.now c.args.rules.now c.args.store.now c.loop-k.k (omega arith)) c.print_rule-a.ensures

pub shape_of-out : goal.shape_of-out
shape_of-out c = c.loop-k.invariant.long

pub returns : goal.returns
returns c = same_last c.args.style c.args.nodes.now c.args.rules.now c.args.store.now _ (omega arith) c.loop-k.invariant
