-- Along the definition (`rule_at`), a law for each way out: no name, no `=`, no `{`, a refused expression, no `}`, and all there. The bytes of
-- the name and of the expression are few (`word_short`, `expr_ends`), so that their sum fits.
use Rattle.std.proofs.lemmas.Result.{err_from_is_err_and}
use Rattle.structure.proofs.Rules.{name_in, rule_unnamed, rule_untied, rule_unbraced, rule_refused, rule_unclosed, rule_read}
use Rattle.structure.proofs.Cycle.{expr_ends}
use Rattle.structure.proofs.Sizes.{word_short}
use native.Mathlib.Omega.{arith}
use Rattle.token.proofs.Table.{sizes}
use Rattle.structure.proofs.inner.rules.check_rule.Goals as goal

pub returns-then-not-is_name : goal.returns-then-not-is_name
returns-then-not-is_name c = rule_unnamed _ _ _ _ c.is_name.ensures c.if-not-is_name.true _ c.not_allowed.ensures

pub overflow_add-at : goal.overflow_add-at
overflow_add-at c = let i = name_in _ _ _ c.is_name.ensures c.if-not-is_name.false in let z = sizes _ _ c.requires in omega arith

pub overflow_add-at-in_default : goal.overflow_add-at-in_default
overflow_add-at-in_default c = let i = name_in _ _ _ c.is_name.ensures c.if-not-is_name.false in let z = sizes _ _ c.requires in omega arith

pub returns-in_default : goal.returns-in_default
returns-in_default c = rule_untied _ _ _ _ c.is_name.ensures c.if-not-is_name.false _ c.expect-tie.ensures c.in_default.is _ c.not_allowed-in_default.ensures

pub returns-in_default-brace : goal.returns-in_default-brace
returns-in_default-brace c = rule_unbraced _ _ _ _ c.is_name.ensures c.if-not-is_name.false _ c.expect-tie.ensures _ c.in-Some.is _ c.past_mark-open.ensures _ c.expect-brace.ensures c.in_default-brace.is _ c.not_allowed-in_default-brace.ensures

pub returns-in_default-close : goal.returns-in_default-close
returns-in_default-close c = rule_unclosed _ _ _ _ c.is_name.ensures c.if-not-is_name.false _ c.expect-tie.ensures _ c.in-Some.is _ c.past_mark-open.ensures _ c.expect-brace.ensures _ c.in-Some-brace.is _ c.past_bar-body.ensures _ c.check_expr.ensures _ _ _ c.in_ok-inside.was _ c.expect-close.ensures c.in_default-close.is _ c.not_allowed-in_default-close.ensures

pub overflow_add-result : goal.overflow_add-result
overflow_add-result c =
    let a = expr_ends _ _ c.requires.short _ _ _ _ _ _ c.check_expr.ensures c.in_ok-inside.was in
    let b = a.small in
    let d = a.few in
    let f = a.within in
    let l = word_short c.args.text.now c.args.at in
    let h = c.requires.short in
    let z = sizes _ _ c.requires in
    omega arith

pub returns-in_err-inside : goal.returns-in_err-inside
returns-in_err-inside c = let p = err_from_is_err_and c.from_residual.result c.from_residual.ensures.1 in rw (p.1, p.2) (rule_refused _ _ _ _ c.is_name.ensures c.if-not-is_name.false _ c.expect-tie.ensures _ c.in-Some.is _ c.past_mark-open.ensures _ c.expect-brace.ensures _ c.in-Some-brace.is _ c.past_bar-body.ensures _ c.check_expr.ensures _ c.in_err-inside.was)

pub returns : goal.returns
returns c = rule_read _ _ _ _ c.is_name.ensures c.if-not-is_name.false _ c.expect-tie.ensures _ c.in-Some.is _ c.past_mark-open.ensures _ c.expect-brace.ensures _ c.in-Some-brace.is _ c.past_bar-body.ensures _ c.check_expr.ensures _ _ _ c.in_ok-inside.was _ c.expect-close.ensures _ c.in-Some-close.is _ c.word_bytes-named.ensures
