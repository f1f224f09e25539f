-- The code counts the byte from the text's start, the definition from behind the first `'`: `drop-drop` makes it one place. There stands a `'` or not.
use Prim.Native.Nat.{◌+◌}
use mathlib.Core.Path.{sym, ap, ◌∙◌}
use native.Mathlib.Omega.{arith}
use lib.Seq.{drop-drop}
use Rattle.text.specs.Booleans.{next_is}
use Rattle.token.specs.Tokens.{quoted}
use Rattle.token.proofs.Places.{found, none}
use Rattle.token.proofs.inner.openers.quoted_at.Goals as goal

pub returns-then-next_is : goal.returns-then-next_is
unfolding quoted
returns-then-next_is c = rw (ap (next_is 39) (drop-drop c.args.n (c.args.at + 1) c.args.s.now) ∙ sym c.next_is.ensures ∙ c.if-next_is.true) (found 25 _ _ _ (omega arith))

pub returns : goal.returns
unfolding quoted
returns c = rw (ap (next_is 39) (drop-drop c.args.n (c.args.at + 1) c.args.s.now) ∙ sym c.next_is.ensures ∙ c.if-next_is.false) (none _)
