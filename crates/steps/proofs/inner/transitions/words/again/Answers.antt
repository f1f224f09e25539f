use Rattle.steps.proofs.Turns.{again_one}
use Rattle.steps.proofs.inner.transitions.words.again.Goals as goal

pub returns : goal.returns
returns c = rw (c.token.ensures, c.start.ensures) (again_one c.args.kind c.args.p.start c.args.p.size c.args.x)
