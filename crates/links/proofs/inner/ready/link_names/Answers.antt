use Rattle.links.proofs.Naming.{some_none, some_more, some_stop, some_linked, every_end, mention_inside, valid_rooted}
use Rattle.links.specs.Program.{known_at}
use Rattle.table.proofs.Names.{valid_inside}
use native.Mathlib.Omega.{arith}
use mathlib.Core.Path.{refl}
use Rattle.links.proofs.inner.ready.link_names.Goals as goal

pub loop-i-init : goal.loop-i-init
loop-i-init c = some_none _ _ _ _ c.requires.links_len

pub mention_link-requires : goal.mention_link-requires
mention_link-requires c = record {
  names_inside = valid_inside c.requires.valid;
  rooted = valid_rooted _ _ _ c.requires.valid;
  inside = mention_inside _ _ _ c.requires.valid _ (omega arith) c.node_at.ensures c.mention_of-mention.ensures;
}

pub returns-in_default-clause-value : goal.returns-in_default-clause-value
returns-in_default-clause-value c = some_stop _ _ _ _ _ c.loop-i.invariant c.node_at.ensures c.mention_of-mention.ensures c.mention_link.ensures _ refl (omega arith) c.in_default.is

pub bounds-links-i : goal.bounds-links-i
bounds-links-i c = omega (arith, c.requires.valid.few_nodes)

pub loop-i-preserved : goal.loop-i-preserved
loop-i-preserved c = some_more _ _ _ _ _ c.loop-i.invariant c.node_at.ensures c.mention_of-mention.ensures c.mention_link.ensures _ (omega (arith, c.requires.valid.few_nodes)) c.in-Some.is

pub returns : goal.returns
returns c = record {
  value = every_end (known_at c.args.nodes.now c.args.rules.now c.args.store.now) _ _ (omega arith) (omega arith) c.loop-i.invariant.found;
  linked = λ e. some_linked _ _ _ _ _ _ c.loop-i.invariant refl (omega arith);
}
