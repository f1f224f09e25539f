-- The invariant: from i on there is nothing but word bytes if there is from p on. A word byte moves i on, any other ends it, and so does a place
-- whose stop is known (`part_runs`).
use lib.ListN.{take, drop}
use mathlib.Core.Path.{◌≡◌}
use Prim.Native.Nat.{◌≤◌}
use Rattle.text.specs.Words.{in_word}
use Rattle.text.specs.Booleans.{all}
use Rattle.known.proofs.inner.runs.all_in_word.Given as goal

abbrev pub invariant-loop-i : goal.invariant-loop-i
invariant-loop-i l = (l.i ≤ l.e) × (all in_word (drop l.i (take l.e l.store)) ≡ all in_word (drop l.p (take l.e l.store)))
