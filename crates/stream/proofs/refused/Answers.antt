use Rattle.stream.proofs.refused.Goals as goal

pub returns : goal.returns
returns c = rw c.held.ensures
