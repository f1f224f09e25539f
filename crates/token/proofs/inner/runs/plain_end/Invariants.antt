-- Invariant: i and what is left of the line from i on have the sum that `at` and what is left from `at` on have. A window above CR keeps it
-- (`line_plain`). The bytes that are left fall.
use Prim.Native.Nat.{◌+◌, ◌-◌}
use mathlib.Core.Path.{◌≡◌}
use lib.ListN.{length, drop}
use Rattle.token.specs.Blanks.{line}
use Rattle.token.proofs.inner.runs.plain_end.Given as goal

abbrev pub invariant-loop-i : goal.invariant-loop-i
invariant-loop-i l = l.i + line (drop l.i l.s) ≡ l.at + line (drop l.at l.s)

abbrev pub decreases-loop-i : goal.decreases-loop-i
decreases-loop-i l = length l.s - l.i
