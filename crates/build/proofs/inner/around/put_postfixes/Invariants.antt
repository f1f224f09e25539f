-- The loop keeps PostsInv: over any tree of that span the postfixes up to token i have their records, and reading on from i gives the whole. Tokens left fall.
-- All postfixes were read, so none is refused (`posts_sound`): where `suffix_at` finds none they are at an end (`posts_done`).
use lib.ListN.{length}
use Prim.Native.Nat.{◌-◌}
use Rattle.token.specs.Table.{toks}
use Rattle.build.proofs.Loops.{PostsInv}
use Rattle.build.proofs.inner.around.put_postfixes.Given as goal

abbrev pub invariant-loop-op : goal.invariant-loop-op
invariant-loop-op l = PostsInv l.text l.initial.nodes l.at l.used l.from l.to l.nodes l.i l.u l.z

abbrev pub decreases-loop-op : goal.decreases-loop-op
decreases-loop-op l = length (toks l.text) - l.i
