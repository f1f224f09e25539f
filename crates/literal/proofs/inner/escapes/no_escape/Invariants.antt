-- The loop keeps: what a search from i on finds, counted from the start, is what the search of the whole text finds. The bytes left fall.
-- A turn goes past a byte (`other_stray`) or past an escape, of two bytes or more (`means_stray`), or stops at a backslash that begins none (`slash_stray`).
use Prim.Native.Nat.{◌-◌}
use lib.ListN.{length, drop}
use mathlib.Core.Path.{◌≡◌}
use Rattle.text.specs.Scans.{sought, later}
use Rattle.literal.specs.Escapes.{stray_look, no_escape}
use Rattle.literal.proofs.inner.escapes.no_escape.Given as goal

abbrev pub invariant-loop-i : goal.invariant-loop-i
invariant-loop-i l = later l.i (sought stray_look 0 (drop l.i l.s)) ≡ no_escape l.s

abbrev pub decreases-loop-i : goal.decreases-loop-i
decreases-loop-i l = length l.s - l.i
