-- Falls: 3 times the unread bytes, plus 2 for an expression, 1 for a term, 0 for a node; a node calls for an expression only past a `(`.
-- Loop of `check_expr` (`ChainInv`): the expression is the chain read so far, with its nodes and bytes, going on at i; the tokens left fall.
use Rattle.structure.proofs.Cycle.{ChainInv}
use Rattle.structure.specs.Answers.{unread}
use lib.ListN.{length}
use Prim.Native.Nat.{◌-◌, ◌+◌, ◌*◌}
use Rattle.token.specs.Table.{toks}
use Rattle.structure.proofs.inner.checks.+check_expr_check_node_check_term.Given as goal

abbrev pub decreases-check_expr : goal.decreases-check_expr
decreases-check_expr l = 3 * unread l.text.now l.at + 2

abbrev pub decreases-check_node : goal.decreases-check_node
decreases-check_node l = 3 * unread l.text.now l.at

abbrev pub decreases-check_term : goal.decreases-check_term
decreases-check_term l = 3 * unread l.text.now l.at + 1

abbrev pub invariant-check_expr-loop-level : goal.invariant-check_expr-loop-level
invariant-check_expr-loop-level l = ChainInv l.level l.text l.deep l.at l.i l.count l.size

abbrev pub decreases-check_expr-loop-level : goal.decreases-check_expr-loop-level
decreases-check_expr-loop-level l = length (toks l.text) - l.i
