-- The loop keeps Same: writing at a what is printed for the text from i on comes to the same as writing all of it at `at`. The bytes left fall.
-- A turn writes a bare byte (`bare_turn`) or a character as it is shown (`shown_turn`), or goes past a byte that begins none (`shown_skip`).
use Prim.Native.Nat.{◌-◌}
use lib.ListN.{length, drop}
use Rattle.text.specs.Scans.{spelled}
use Rattle.text.proofs.Walks.{Same}
use Rattle.literal.specs.Literals.{char_piece, inside}
use Rattle.literal.proofs.inner.shows.put_inside.Given as goal

abbrev pub invariant-loop-i : goal.invariant-loop-i
invariant-loop-i l = Same l.initial.out l.at (inside l.q l.s) l.out l.a (spelled (char_piece l.q) 0 (drop l.i l.s))

abbrev pub decreases-loop-i : goal.decreases-loop-i
decreases-loop-i l = length l.s - l.i
