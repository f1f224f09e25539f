-- The loop keeps: what a search from i on finds, counted from the start, is what the search of the whole text finds. The bytes left fall.
-- A turn goes past a byte (`plain_look`) or past an escape of a character, of two bytes or more (`means_look`), or stops at an escape of none (`bad_look`).
use Prim.Native.Nat.{◌-◌}
use lib.ListN.{length, drop}
use mathlib.Core.Path.{◌≡◌}
use Rattle.text.specs.Scans.{sought, later}
use Rattle.literal.specs.Escapes.{escape_look, bad_escape}
use Rattle.literal.proofs.inner.escapes.bad_escape.Given as goal

abbrev pub invariant-loop-i : goal.invariant-loop-i
invariant-loop-i l = later l.i (sought escape_look 0 (drop l.i l.s)) ≡ bad_escape l.s

abbrev pub decreases-loop-i : goal.decreases-loop-i
decreases-loop-i l = length l.s - l.i
