-- A mentioned name lies inside the store, and its bytes are the part that the definition looks up.
use Rattle.links.proofs.Naming.{mention_named}
use Rattle.links.specs.Program.{Inside}
use mathlib.Core.Path.{subst}
use native.Mathlib.Omega.{arith}
use Rattle.links.proofs.inner.ready.mention_link.Goals as goal

pub overflow_add-e : goal.overflow_add-e
overflow_add-e c = let h = subst (Inside c.args.store.now) c.in-Some.is c.requires.inside in omega (arith, h)

pub slice_bounds-link_for-end : goal.slice_bounds-link_for-end
slice_bounds-link_for-end c = subst (Inside c.args.store.now) c.in-Some.is c.requires.inside

pub returns-in-Some : goal.returns-in-Some
returns-in-Some c = mention_named c.args.rules.now c.args.store.now _ _ _ c.in-Some.is c.link_for.ensures
