-- Invariant: the walk from i ends where the walk from `at` does. A turn goes past a byte (`inside_byte`) or an escape, which has two bytes or more
-- (`inside_escape`, `meant`), so that the bytes that are left fall. It stops at a `"` or at a bad backslash (`inside_quote`, `inside_bad`).
use Prim.Native.Nat.{◌-◌}
use mathlib.Core.Path.{◌≡◌}
use lib.ListN.{length, drop}
use Rattle.text.specs.Scans.{later, sought}
use Rattle.token.specs.Tokens.{inside_look}
use Rattle.token.proofs.inner.openers.inside_end.Given as goal

abbrev pub invariant-loop-i : goal.invariant-loop-i
invariant-loop-i l = later l.i (sought inside_look 0 (drop l.i l.s)) ≡ later l.at (sought inside_look 0 (drop l.at l.s))

abbrev pub decreases-loop-i : goal.decreases-loop-i
decreases-loop-i l = length l.s - l.i
