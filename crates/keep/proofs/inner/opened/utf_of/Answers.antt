use mathlib.Core.Path.{sym}
use native.Mathlib.Omega.{arith}
use Rattle.states.specs.Keep.{utf_of}
use Rattle.keep.proofs.Codes.{utf_mid}
use Rattle.keep.proofs.inner.opened.utf_of.Goals as goal

pub returns-in-1-to-7 : goal.returns-in-1-to-7
unfolding utf_of
returns-in-1-to-7 c = rw c.tail_of.ensures (sym (utf_mid c.args.code c.args.start (omega arith) (omega arith)))
