use native.Mathlib.Omega.{arith}
use Rattle.text.proofs.Tables.{class_rule}
use Rattle.text.proofs.inner.classes.class.Goals as goal

pub returns : goal.returns
returns c = rw (c.requires, c.from.ensures) (class_rule c.args.b (omega arith))
