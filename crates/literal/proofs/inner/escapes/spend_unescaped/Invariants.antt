-- The loop keeps: to spend from `left` what the text means from i on leaves what all that it means leaves of `room`. The length less i falls.
-- A turn spends the length of what it goes past means: a byte (`plain_turn`) or an escape, which has two bytes or more (`means_turn`).
use Prim.Native.Nat.{◌-◌}
use mathlib.Core.Path.{◌≡◌}
use lib.ListN.{length, drop}
use Rattle.text.specs.Splice.{spent}
use Rattle.text.specs.Scans.{spelled}
use Rattle.literal.specs.Escapes.{escape_piece, unescaped}
use Rattle.literal.proofs.inner.escapes.spend_unescaped.Given as goal

abbrev pub invariant-loop-i : goal.invariant-loop-i
invariant-loop-i l = spent l.left (spelled escape_piece 0 (drop l.i l.s)) ≡ spent l.room (unescaped l.s)

abbrev pub decreases-loop-i : goal.decreases-loop-i
decreases-loop-i l = length l.s - l.i
