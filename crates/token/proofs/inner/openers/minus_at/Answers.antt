-- Zeros and digits are both counted from behind the `-`, so that the ends compare as the counts do: the zeros end first exactly if not all digits are 0.
use Prim.Native.Nat.{◌+◌, ◌<◌, ◌≤◌}
use native.Mathlib.Omega.{arith}
use lib.ListN.{drop}
use borrow.Author.Tests.{lt-ltb, le-ltb}
use Rattle.token.specs.Tokens.{minus_token}
use Rattle.token.specs.Blanks.{zeros, digit_run}
use Rattle.token.proofs.Places.{found, none}
use Rattle.token.proofs.inner.openers.minus_at.Goals as goal

pub returns-then-zeros-end : goal.returns-then-zeros-end
unfolding minus_token
returns-then-zeros-end c =
    let xs = drop (c.args.at + 1) c.args.s.now in let h : zeros xs < digit_run xs = omega arith in
    rw (lt-ltb _ _ h) (found 21 _ _ _ (omega arith))

pub returns : goal.returns
unfolding minus_token
returns c =
    let xs = drop (c.args.at + 1) c.args.s.now in let h : digit_run xs ≤ zeros xs = omega arith in
    rw (le-ltb _ _ h) (none _)
