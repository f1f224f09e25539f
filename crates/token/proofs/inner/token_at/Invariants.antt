-- Invariant: the token at i is the token at `at`. A turn goes past a blank, so that the bytes that are left fall (`at_space`, `at_blank`, `at_next`);
-- each way out is a law of Places, by the class of the byte at i, or for the text's end.
use Prim.Native.Nat.{◌-◌}
use mathlib.Core.Path.{◌≡◌}
use lib.ListN.{length}
use Rattle.token.specs.Tokens.{token_at}
use Rattle.token.proofs.inner.token_at.Given as goal

abbrev pub invariant-loop-i : goal.invariant-loop-i
invariant-loop-i l = token_at l.s l.i ≡ token_at l.s l.at

abbrev pub decreases-loop-i : goal.decreases-loop-i
decreases-loop-i l = length l.s - l.i
