-- Where p + q is below the limit of its kind, `told` says of the node what `first_flat` asks for.
use mathlib.Core.Path.{sym, ◌∙◌}
use borrow.Author.Tests.{ltb-true}
use Rattle.table.proofs.Children.{told}
use Rattle.table.proofs.inner.light.first_at.Goals as goal

pub first_flat-requires : goal.first_flat-requires
first_flat-requires c =
    let place = c.args.place.now in
    let kinds = c.args.kinds.now in
    rw (c.from.ensures, c.from-then-is_flat.ensures) (told place.nodes.now c.args.texts.now.store.now place.i c.requires kinds.one_is kinds.two_is (ltb-true _ _ (sym c.is_flat.ensures ∙ c.if-is_flat.true)))
