use mathlib.Core.Path.{◌∙◌}
use Rattle.literal.proofs.Printed.{literal_spent}
use Rattle.literal.proofs.inner.shows.spend_literal.Goals as goal

pub returns : goal.returns
returns c = c.spend.ensures ∙ rw c.spend_inside.ensures (literal_spent _ _ _)
