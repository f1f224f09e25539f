-- The loop keeps: writing at a what the text means from i on comes to the same as writing all of it at `at` (Same), and no escape from i on is bad.
-- So an escape's number is a character (`good_scalar`), and there is room for what a turn writes (`turn_room`). The bytes left fall.
use Rattle.std.specs.Prelude.{None}
use Prim.Native.Nat.{◌-◌}
use mathlib.Core.Path.{◌≡◌}
use lib.ListN.{length, drop}
use Rattle.text.specs.Scans.{spelled, sought, later}
use Rattle.text.proofs.Walks.{Same}
use Rattle.literal.specs.Escapes.{escape_piece, escape_look, unescaped}
use Rattle.literal.proofs.inner.escapes.put_unescaped.Given as goal

abbrev pub invariant-loop-i : goal.invariant-loop-i
invariant-loop-i l = Same l.initial.out l.at (unescaped l.s) l.out l.a (spelled escape_piece 0 (drop l.i l.s)) × (later l.i (sought escape_look 0 (drop l.i l.s)) ≡ None)

abbrev pub decreases-loop-i : goal.decreases-loop-i
decreases-loop-i l = length l.s - l.i
