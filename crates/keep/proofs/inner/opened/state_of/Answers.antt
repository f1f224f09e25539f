use mathlib.Core.Path.{sym}
use native.Mathlib.Omega.{arith}
use Rattle.states.specs.Keep.{state_of}
use Rattle.keep.proofs.Codes.{state_past}
use Rattle.keep.proofs.inner.opened.state_of.Goals as goal

pub returns-in-29-to-max : goal.returns-in-29-to-max
unfolding state_of
returns-in-29-to-max c = sym (state_past c.args.p.code c.args.p.kind c.args.p.backslash c.args.p.depth (omega arith))
