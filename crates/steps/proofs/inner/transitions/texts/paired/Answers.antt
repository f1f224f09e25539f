use Rattle.steps.proofs.inner.transitions.texts.paired.Goals as goal

pub returns : goal.returns
returns c = rw (c.is_hex.ensures, c.back.ensures) at c.grow_if.ensures
