use Rattle.std.proofs.lemmas.Result.{err_from_is_err_and}
use Rattle.structure.proofs.Cycle.{expr_refused, chain_start, joins_by, joint_in, chain_more, chain_refused, term_untied, term_refused, term_unposted, term_sums, term_good, node_leaf, node_unopened, node_refused, node_unclosed, node_sum, node_closed, falls_term, falls_node}
use Rattle.structure.proofs.Checks.{was_from, was_untied, was_open, was_unopened, signed_end}
use native.Mathlib.Omega.{arith}
use Prim.Native.Nat.{◌+◌}
use Rattle.token.proofs.Table.{sizes}
use Rattle.structure.proofs.Wants.{fewer}
use Rattle.structure.proofs.inner.checks.+check_expr_check_node_check_term.Goals as goal

pub check_expr-loop-level-init : goal.check_expr-loop-level-init
check_expr-loop-level-init t c = chain_start _ _ _ _ c.requires.lent.short _ _ _ _ c.check_term.ensures c.in_ok-first.was

pub check_expr-overflow_add-i : goal.check_expr-overflow_add-i
check_expr-overflow_add-i t c = let i = joint_in _ _ _ _ _ _ _ _ c.kind_at-k.ensures c.loop-level.invariant (joins_by _ (omega arith) (omega arith)) in let z = sizes _ _ c.requires.lent in omega arith

pub check_expr-check_term-requires-in-loop-level : goal.check_expr-check_term-requires-in-loop-level
check_expr-check_term-requires-in-loop-level t c =
    let i = joint_in _ _ _ _ _ _ _ _ c.kind_at-k.ensures c.loop-level.invariant (joins_by _ (omega arith) (omega arith)) in
    let e = c.loop-level.invariant.ends.on in
    let f = fewer c.args.text.now c.args.at (c.loop-level.i + 1) (omega arith) (omega arith) in
    (omega arith, (c.requires.lent, c.requires.deep_le_max_open))

pub check_expr-returns-in_err-term : goal.check_expr-returns-in_err-term
check_expr-returns-in_err-term t c = let p = err_from_is_err_and c.from_residual-in_err-term.result c.from_residual-in_err-term.ensures.1 in rw (p.1, p.2) (chain_refused _ _ _ _ _ _ _ _ c.kind_at-k.ensures c.loop-level.invariant (joins_by _ (omega arith) (omega arith)) _ _ c.check_term-in-loop-level.ensures c.in_err-term.was)

pub check_expr-overflow_add-count : goal.check_expr-overflow_add-count
check_expr-overflow_add-count t c = let i = chain_more _ _ _ _ _ _ _ _ c.kind_at-k.ensures c.loop-level.invariant c.requires.lent.short (joins_by _ (omega arith) (omega arith)) _ _ _ _ c.check_term-in-loop-level.ensures c.in_ok-term.was in let e = i.1.ends in let a = e.few in let b = e.within in let d = e.small in let z = sizes _ _ c.requires.lent in omega arith

pub check_expr-overflow_add-count-in-loop-level : goal.check_expr-overflow_add-count-in-loop-level
check_expr-overflow_add-count-in-loop-level t c = let i = chain_more _ _ _ _ _ _ _ _ c.kind_at-k.ensures c.loop-level.invariant c.requires.lent.short (joins_by _ (omega arith) (omega arith)) _ _ _ _ c.check_term-in-loop-level.ensures c.in_ok-term.was in let e = i.1.ends in let a = e.few in let b = e.within in let d = e.small in let z = sizes _ _ c.requires.lent in omega arith

pub check_expr-overflow_add-size : goal.check_expr-overflow_add-size
check_expr-overflow_add-size t c = let i = chain_more _ _ _ _ _ _ _ _ c.kind_at-k.ensures c.loop-level.invariant c.requires.lent.short (joins_by _ (omega arith) (omega arith)) _ _ _ _ c.check_term-in-loop-level.ensures c.in_ok-term.was in let e = i.1.ends in let a = e.few in let b = e.within in let d = e.small in let z = sizes _ _ c.requires.lent in omega arith

pub check_expr-loop-level-smaller : goal.check_expr-loop-level-smaller
check_expr-loop-level-smaller t c = let i = chain_more _ _ _ _ _ _ _ _ c.kind_at-k.ensures c.loop-level.invariant c.requires.lent.short (joins_by _ (omega arith) (omega arith)) _ _ _ _ c.check_term-in-loop-level.ensures c.in_ok-term.was in let j = i.0 in let e = i.1.ends.within in omega arith

pub check_expr-loop-level-preserved : goal.check_expr-loop-level-preserved
check_expr-loop-level-preserved t c = (chain_more _ _ _ _ _ _ _ _ c.kind_at-k.ensures c.loop-level.invariant c.requires.lent.short (joins_by _ (omega arith) (omega arith)) _ _ _ _ c.check_term-in-loop-level.ensures c.in_ok-term.was).1

pub check_expr-returns-in_err-first : goal.check_expr-returns-in_err-first
check_expr-returns-in_err-first t c = let p = err_from_is_err_and c.from_residual.result c.from_residual.ensures.1 in rw (p.1, p.2) (expr_refused _ _ _ _ _ _ c.check_term.ensures c.in_err-first.was)

pub check_node-overflow_add-at : goal.check_node-overflow_add-at
check_node-overflow_add-at t c = let i = (was_unopened c.args.level _ _ _ c.bracket_of-bracket.ensures c.in-Unopened.is).0 in let z = sizes _ _ c.requires.lent in omega arith

pub check_node-overflow_add-open : goal.check_node-overflow_add-open
check_node-overflow_add-open t c = let i = (was_open c.args.level _ _ _ _ _ c.bracket_of-bracket.ensures c.in-Opens.is).within in let z = sizes _ _ c.requires.lent in omega arith

pub check_node-check_expr-requires : goal.check_node-check_expr-requires
check_node-check_expr-requires t c = let f = falls_node c.args.level _ _ _ _ (was_open c.args.level _ _ _ _ _ c.bracket_of-bracket.ensures c.in-Opens.is) in (omega arith, (c.requires.lent, omega arith))

pub check_node-returns-in_default : goal.check_node-returns-in_default
check_node-returns-in_default t c = node_unclosed _ _ c.requires.lent.short _ _ _ _ (was_open _ _ _ _ _ _ c.bracket_of-bracket.ensures c.in-Opens.is) (omega arith) _ c.check_expr.ensures _ _ _ c.in_ok-inside-in-Opens.was _ c.expect-close.ensures c.in_default.is _ c.not_allowed-in_default.ensures

pub check_node-overflow_add-result : goal.check_node-overflow_add-result
check_node-overflow_add-result t c = let i = node_sum _ _ c.requires.lent.short _ _ _ _ (was_open _ _ _ _ _ _ c.bracket_of-bracket.ensures c.in-Opens.is) (omega arith) _ c.check_expr.ensures _ _ _ c.in_ok-inside-in-Opens.was _ c.expect-close.ensures (sizes _ _ c.requires.lent).1 in omega arith

pub check_node-returns-in-Nothing : goal.check_node-returns-in-Nothing
check_node-returns-in-Nothing t c = node_leaf _ _ c.requires.lent.short _ _ _ c.bracket_of-bracket.ensures c.in-Nothing.is _ c.check_leaf.ensures

pub check_node-returns-in-Unopened : goal.check_node-returns-in-Unopened
check_node-returns-in-Unopened t c = node_unopened _ _ c.requires.lent.short _ _ _ c.bracket_of-bracket.ensures c.in-Unopened.is _ c.not_allowed.ensures

pub check_node-returns-in_err-inside-in-Opens : goal.check_node-returns-in_err-inside-in-Opens
check_node-returns-in_err-inside-in-Opens t c = let p = err_from_is_err_and c.from_residual.result c.from_residual.ensures.1 in rw (p.1, p.2) (node_refused _ _ c.requires.lent.short _ _ _ _ (was_open _ _ _ _ _ _ c.bracket_of-bracket.ensures c.in-Opens.is) (omega arith) _ c.check_expr.ensures _ c.in_err-inside-in-Opens.was)

pub check_node-returns-in-Some : goal.check_node-returns-in-Some
check_node-returns-in-Some t c = node_closed _ _ c.requires.lent.short _ _ _ _ (was_open _ _ _ _ _ _ c.bracket_of-bracket.ensures c.in-Opens.is) (omega arith) _ c.check_expr.ensures _ _ _ c.in_ok-inside-in-Opens.was _ c.expect-close.ensures _ c.in-Some.is

pub check_term-overflow_add-at : goal.check_term-overflow_add-at
check_term-overflow_add-at t c = let i = (was_untied _ _ _ _ c.tag_of.ensures c.in_default.is).0 in let z = sizes _ _ c.requires.lent in omega arith

pub check_term-returns-in_default : goal.check_term-returns-in_default
check_term-returns-in_default t c = term_untied _ _ c.requires.lent.short _ _ _ c.tag_of.ensures c.in_default.is _ c.not_allowed.ensures

pub check_term-check_node-requires : goal.check_term-check_node-requires
check_term-check_node-requires t c = let f = falls_term c.args.level _ _ _ _ _ _ (was_from c.args.level _ _ _ _ _ _ c.tag_of.ensures c.in-Some.is) c.predicates_end-first.ensures in (omega arith, (c.requires.lent, c.requires.deep_le_max_open))

pub check_term-overflow_add-result : goal.check_term-overflow_add-result
check_term-overflow_add-result t c = let z = term_sums _ _ c.requires.lent.short _ _ _ _ _ (was_from _ _ _ _ _ _ _ c.tag_of.ensures c.in-Some.is) _ c.predicates_end-first.ensures _ _ _ _ c.check_node.ensures c.in_ok-inner.was _ c.check_posts.ensures _ _ c.in_ok-tails.was (sizes _ _ c.requires.lent).1 in omega arith

pub check_term-overflow_sub-result : goal.check_term-overflow_sub-result
check_term-overflow_sub-result t c = (signed_end _ _ _ c.predicates_end-first.ensures).from

pub check_term-overflow_add-result-2 : goal.check_term-overflow_add-result-2
check_term-overflow_add-result-2 t c = let z = term_sums _ _ c.requires.lent.short _ _ _ _ _ (was_from _ _ _ _ _ _ _ c.tag_of.ensures c.in-Some.is) _ c.predicates_end-first.ensures _ _ _ _ c.check_node.ensures c.in_ok-inner.was _ c.check_posts.ensures _ _ c.in_ok-tails.was (sizes _ _ c.requires.lent).1 in omega arith

pub check_term-overflow_add-result-3 : goal.check_term-overflow_add-result-3
check_term-overflow_add-result-3 t c = let z = term_sums _ _ c.requires.lent.short _ _ _ _ _ (was_from _ _ _ _ _ _ _ c.tag_of.ensures c.in-Some.is) _ c.predicates_end-first.ensures _ _ _ _ c.check_node.ensures c.in_ok-inner.was _ c.check_posts.ensures _ _ c.in_ok-tails.was (sizes _ _ c.requires.lent).1 in omega arith

pub check_term-overflow_add-result-4 : goal.check_term-overflow_add-result-4
check_term-overflow_add-result-4 t c = let z = term_sums _ _ c.requires.lent.short _ _ _ _ _ (was_from _ _ _ _ _ _ _ c.tag_of.ensures c.in-Some.is) _ c.predicates_end-first.ensures _ _ _ _ c.check_node.ensures c.in_ok-inner.was _ c.check_posts.ensures _ _ c.in_ok-tails.was (sizes _ _ c.requires.lent).1 in omega arith

pub check_term-returns-in_err-inner : goal.check_term-returns-in_err-inner
check_term-returns-in_err-inner t c = let p = err_from_is_err_and c.from_residual.result c.from_residual.ensures.1 in rw (p.1, p.2) (term_refused _ _ c.requires.lent.short _ _ _ _ _ (was_from _ _ _ _ _ _ _ c.tag_of.ensures c.in-Some.is) _ c.predicates_end-first.ensures _ _ c.check_node.ensures c.in_err-inner.was)

pub check_term-returns-in_err-tails : goal.check_term-returns-in_err-tails
check_term-returns-in_err-tails t c = let p = err_from_is_err_and c.from_residual-in_err-tails.result c.from_residual-in_err-tails.ensures.1 in rw (p.1, p.2) (term_unposted _ _ c.requires.lent.short _ _ _ _ _ (was_from _ _ _ _ _ _ _ c.tag_of.ensures c.in-Some.is) _ c.predicates_end-first.ensures _ _ _ _ c.check_node.ensures c.in_ok-inner.was _ c.check_posts.ensures _ c.in_err-tails.was)

pub check_term-returns : goal.check_term-returns
check_term-returns t c = term_good _ _ c.requires.lent.short _ _ _ _ _ (was_from _ _ _ _ _ _ _ c.tag_of.ensures c.in-Some.is) _ c.predicates_end-first.ensures _ _ _ _ c.check_node.ensures c.in_ok-inner.was _ c.check_posts.ensures _ _ c.in_ok-tails.was
