use Rattle.vectors.proofs.Vectors.{field_is}
use Rattle.vectors.proofs.field.Goals as goal

pub returns : goal.returns
returns c = (c.find-end.ensures.1 c.find-start.ensures.0, c.find-end.ensures.0, field_is _ _ _ _ c.find-start.ensures.2 c.find-end.ensures.2)
