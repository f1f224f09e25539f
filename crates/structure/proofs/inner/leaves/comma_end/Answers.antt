-- A comma is wanted, and then what `most_end` says from the maximum on: a law for each way out (`comma_none`, `comma_most`).
use Rattle.structure.proofs.Leaves.{comma_none, comma_most}
use Rattle.structure.proofs.inner.leaves.comma_end.Goals as goal

pub returns-in_default : goal.returns-in_default
returns-in_default c = comma_none _ _ _ c.expect-comma.ensures c.in_default.is _ c.not_allowed.ensures

pub returns : goal.returns
returns c = comma_most _ _ _ c.expect-comma.ensures _ c.in-Some.is _ c.most_end.ensures
