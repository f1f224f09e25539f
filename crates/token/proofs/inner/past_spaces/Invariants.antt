-- Invariant: the token at i is the token at `at`. A turn goes past a blank (`at_space`, `at_feed`), so that the bytes that are left fall.
use Prim.Native.Nat.{◌-◌}
use mathlib.Core.Path.{◌≡◌}
use lib.ListN.{length}
use Rattle.token.specs.Tokens.{token_at}
use Rattle.token.proofs.inner.past_spaces.Given as goal

abbrev pub invariant-loop-i : goal.invariant-loop-i
invariant-loop-i l = token_at l.s l.i ≡ token_at l.s l.at

abbrev pub decreases-loop-i : goal.decreases-loop-i
decreases-loop-i l = length l.s - l.i
