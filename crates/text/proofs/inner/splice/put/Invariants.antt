-- The text's first i bytes were stored from `at` on and nothing else was (`wrote_more`). There is room for all, so each store is inside.
use Prim.Native.Nat.{◌+◌}
use lib.ListN.{take}
use Rattle.text.specs.Splice.{Wrote}
use Rattle.text.proofs.inner.splice.put.Given as goal

abbrev pub invariant-loop-i : goal.invariant-loop-i
invariant-loop-i l = Wrote l.initial.out l.at (take l.i l.x) l.out (l.at + l.i)
