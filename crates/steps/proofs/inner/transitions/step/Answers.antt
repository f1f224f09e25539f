-- Start's row gives one token at most, as the code tells it (`start_one`).
use mathlib.Core.Path.{◌∙◌, ap}
use Rattle.steps.specs.Shapes.{out_of}
use Rattle.steps.proofs.Turns.{start_one}
use Rattle.steps.proofs.inner.transitions.step.Goals as goal

pub returns-in-Start : goal.returns-in-Start
returns-in-Start c = rw c.in-Start.is (ap out_of c.start.ensures ∙ start_one c.args.x c.args.c.start)
