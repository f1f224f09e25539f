-- The invariant: the part from i on is UTF-8 as the whole part is. A character moves i on (`part_step`), a bad or cut one ends it, and so does
-- a place whose stop is known (`part_ends`); what is left of the part falls.
use mathlib.Core.Path.{◌≡◌}
use Prim.Native.Nat.{◌≤◌, ◌-◌}
use Rattle.known.specs.Stops.{is_part}
use Rattle.known.proofs.inner.stops.is_part.Given as goal

abbrev pub invariant-loop-i : goal.invariant-loop-i
invariant-loop-i l = (l.i ≤ l.e) × (is_part l.store l.i l.e ≡ is_part l.store l.p l.e)

abbrev pub decreases-loop-i : goal.decreases-loop-i
decreases-loop-i l = l.e - l.i
