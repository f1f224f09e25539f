-- What falls at a call: thrice the unread bytes, plus 2 in `consume_expr`, 1 in `unaries`, 0 in `consume_node`; a nested expression begins behind its bracket.
-- The loop keeps `LoopInv`: the choices so far and the last sequence lie in the buffers, and reading on from them at token i gives the whole. Tokens left fall.
use Rattle.build.proofs.Chains.{LoopInv}
use Rattle.structure.specs.Answers.{unread}
use lib.ListN.{length}
use Prim.Native.Nat.{◌-◌, ◌+◌, ◌*◌}
use Rattle.token.specs.Table.{toks}
use Rattle.build.proofs.inner.descent.+consume_expr_consume_node_unaries.Given as goal

abbrev pub decreases-consume_expr : goal.decreases-consume_expr
decreases-consume_expr l = 3 * unread l.text.now l.at + 2

abbrev pub decreases-consume_node : goal.decreases-consume_node
decreases-consume_node l = 3 * unread l.text.now l.at

abbrev pub decreases-unaries : goal.decreases-unaries
decreases-unaries l = 3 * unread l.text.now l.at + 1

abbrev pub invariant-consume_expr-loop-z : goal.invariant-consume_expr-loop-z
invariant-consume_expr-loop-z l = LoopInv l.level l.text l.deep l.at l.used l.free (record { next = l.initial.i; used = l.initial.u; free = l.initial.f; from = l.a; to = l.initial.z }) l.initial.nodes l.initial.store l.i l.u l.f l.a l.b l.z l.chosen l.left l.nodes l.store

abbrev pub decreases-consume_expr-loop-z : goal.decreases-consume_expr-loop-z
decreases-consume_expr-loop-z l = length (toks l.text) - l.i
