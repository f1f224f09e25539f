-- Invariant: from i with `opened` comments open, the last is closed where it is from `at` with one; and 1 ≤ `opened` ≤ i + 1. The bytes that are left
-- fall. Each turn is a law of Comments.
use Prim.Native.Nat.{◌+◌, ◌-◌, ◌≤◌}
use mathlib.Core.Path.{◌≡◌}
use lib.ListN.{length, drop}
use Rattle.token.specs.Blanks.{further, close_of}
use Rattle.token.proofs.inner.blanks.comment_end.Given as goal

abbrev pub invariant-loop-i : goal.invariant-loop-i
invariant-loop-i l = (further l.i (close_of l.opened (drop l.i l.s)) ≡ further l.at (close_of 1 (drop l.at l.s))) × (1 ≤ l.opened) × (l.opened ≤ l.i + 1)

abbrev pub decreases-loop-i : goal.decreases-loop-i
decreases-loop-i l = length l.s - l.i
