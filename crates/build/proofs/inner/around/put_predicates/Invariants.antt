-- The loop keeps SignsInv: at ≤ i ≤ last, u is used + (last - i), and the predicates from i to `last` have their records over any tree that ends at z.
-- A turn puts the predicate before them over them (`signs_more`). It goes from the last to the first.
use Rattle.build.proofs.Loops.{SignsInv}
use Rattle.build.proofs.inner.around.put_predicates.Given as goal

abbrev pub invariant-loop-i : goal.invariant-loop-i
invariant-loop-i l = SignsInv l.text l.initial.nodes l.at l.last l.z l.used l.nodes l.i l.u
