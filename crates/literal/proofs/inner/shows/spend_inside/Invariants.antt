-- The loop keeps: to spend from `left` what is printed for the text from i on leaves what all of it leaves of `room`. The length less i falls.
-- A turn spends a bare byte (`bare_turn`) or a character as it is shown (`shown_turn`), or nothing for a byte that begins none (`shown_skip`).
use Prim.Native.Nat.{◌-◌}
use mathlib.Core.Path.{◌≡◌}
use lib.ListN.{length, drop}
use Rattle.text.specs.Splice.{spent}
use Rattle.text.specs.Scans.{spelled}
use Rattle.literal.specs.Literals.{char_piece, inside}
use Rattle.literal.proofs.inner.shows.spend_inside.Given as goal

abbrev pub invariant-loop-i : goal.invariant-loop-i
invariant-loop-i l = spent l.left (spelled (char_piece l.q) 0 (drop l.i l.s)) ≡ spent l.room (inside l.q l.s)

abbrev pub decreases-loop-i : goal.decreases-loop-i
decreases-loop-i l = length l.s - l.i
