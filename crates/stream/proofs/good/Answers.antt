use Rattle.stream.proofs.good.Goals as goal

pub returns : goal.returns
returns c = rw c.standing.ensures
