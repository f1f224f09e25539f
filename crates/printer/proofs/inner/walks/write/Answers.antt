-- The node is in the table, and its kind is the one that is looked up.
use Rattle.printer.proofs.inner.walks.write.Goals as goal

pub kind_at-kind-requires : goal.kind_at-kind-requires
kind_at-kind-requires c = c.requires.sound_up_to.whole
