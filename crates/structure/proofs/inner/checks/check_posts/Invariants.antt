-- Invariant (`PostInv`): the postfixes from the start on, around any tree, are those from i on around a tree with `count` more nodes and the
-- same bytes. A postfix takes a token at least, so that the tokens left fall and `count` can't overflow.
use Rattle.structure.proofs.Checks.{PostInv}
use lib.ListN.{length}
use Prim.Native.Nat.{◌-◌}
use Rattle.token.specs.Table.{toks}
use Rattle.structure.proofs.inner.checks.check_posts.Given as goal

abbrev pub invariant-loop-n : goal.invariant-loop-n
invariant-loop-n l = PostInv l.text l.at l.i l.count

abbrev pub decreases-loop-n : goal.decreases-loop-n
decreases-loop-n l = length (toks l.text) - l.i
