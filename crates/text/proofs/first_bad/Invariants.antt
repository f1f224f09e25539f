-- The invariant: what is found from i on is what is found in the whole text. A sequence is passed by its length, which is at least 1
-- (`look_ascii`, `look_step`), so what is left of the text falls. Where all is ASCII, nothing is bad (`low_good`).
use Prim.Native.Nat.{◌-◌}
use mathlib.Core.Path.{◌≡◌}
use lib.ListN.{length, drop}
use Rattle.text.specs.Scans.{sought, later}
use Rattle.text.specs.Utf8.{seq_look, first_bad}
use Rattle.text.proofs.first_bad.Given as goal

abbrev pub invariant-loop-i : goal.invariant-loop-i
invariant-loop-i l = later l.i (sought seq_look 0 (drop l.i l.s)) ≡ first_bad l.s

abbrev pub decreases-loop-i : goal.decreases-loop-i
decreases-loop-i l = length l.s - l.i
