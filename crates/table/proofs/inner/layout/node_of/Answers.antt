use mathlib.Core.Path.{◌∙◌}
use Rattle.table.specs.Record.{node_of}
use Rattle.table.proofs.inner.layout.node_of.Goals as goal

pub returns-in-2 : goal.returns-in-2
unfolding node_of
returns-in-2 c = c.text_of-in-2.ensures ∙ rw c.in-2.is
