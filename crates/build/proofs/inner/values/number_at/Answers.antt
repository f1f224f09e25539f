use Rattle.build.proofs.Worths.{number_is}
use Rattle.build.proofs.inner.values.number_at.Goals as goal

pub returns : goal.returns
returns c = number_is _ _ _ _ c.number_of.ensures c.worth_of.ensures
