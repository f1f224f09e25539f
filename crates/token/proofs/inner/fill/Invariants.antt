-- Invariant (`Filling`): the text's tokens are n that are done and then those from `at` on; the table holds the n at its front. A token that is found
-- is stored (`fill_more`) or has no room (`fill_full`). It ends behind `at` and inside the text, so that the bytes that are left fall.
use Rattle.token.proofs.Fills.{Filling}
use lib.ListN.{length}
use Prim.Native.Nat.{◌-◌}
use Rattle.token.proofs.inner.fill.Given as goal

abbrev pub invariant-loop-place : goal.invariant-loop-place
invariant-loop-place l = Filling l.s l.initial.tokens l.tokens l.at l.n

abbrev pub decreases-loop-place : goal.decreases-loop-place
decreases-loop-place l = length l.s - l.at
