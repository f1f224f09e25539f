use Rattle.std.proofs.lemmas.Result.{err_from_is_err_and}
use Rattle.structure.proofs.Rules.{grammar_none, grammar_start, grammar_done, grammar_doc, grammar_refused, grammar_more}
use native.Mathlib.Omega.{arith}
use Rattle.token.proofs.Table.{sizes}
use Rattle.structure.proofs.inner.rules.check_grammar.Goals as goal

pub returns-then-n-i : goal.returns-then-n-i
returns-then-n-i c = grammar_none _ _ _ c.docs_end-i.ensures (let h = c.if-n-i.true in omega arith)

pub loop-i-init : goal.loop-i-init
loop-i-init c = grammar_start _ _ _ c.docs_end-i.ensures (let h = c.if-n-i.false in omega arith)

pub loop-i-preserved-then-kind_at-eq-LINE_DOC : goal.loop-i-preserved-then-kind_at-eq-LINE_DOC
loop-i-preserved-then-kind_at-eq-LINE_DOC c = grammar_doc _ _ _ _ _ _ _ (let h = c.loop-i-test.true in omega arith) c.kind_at.ensures c.if-kind_at-eq-LINE_DOC.true c.loop-i.invariant

pub returns-in_err-rule : goal.returns-in_err-rule
returns-in_err-rule c = let p = err_from_is_err_and c.from_residual.result c.from_residual.ensures.1 in rw (p.1, p.2) (grammar_refused _ _ _ _ _ _ _ (let h = c.loop-i-test.true in omega arith) c.kind_at.ensures c.if-kind_at-eq-LINE_DOC.false c.loop-i.invariant _ _ c.check_rule.ensures c.in_err-rule.was)

pub overflow_add-count : goal.overflow_add-count
overflow_add-count c = let i = grammar_more _ _ c.requires.short _ _ _ _ _ (let h = c.loop-i-test.true in omega arith) c.kind_at.ensures c.if-kind_at-eq-LINE_DOC.false c.loop-i.invariant _ _ _ _ c.check_rule.ensures c.in_ok-rule.was in let j = i.0 in let k = i.1 in let a = k.within in let b = k.rules in let d = k.nodes in let f = k.bytes in let n = sizes _ _ c.requires in omega arith

pub overflow_add-size : goal.overflow_add-size
overflow_add-size c = let i = grammar_more _ _ c.requires.short _ _ _ _ _ (let h = c.loop-i-test.true in omega arith) c.kind_at.ensures c.if-kind_at-eq-LINE_DOC.false c.loop-i.invariant _ _ _ _ c.check_rule.ensures c.in_ok-rule.was in let j = i.0 in let k = i.1 in let a = k.within in let b = k.rules in let d = k.nodes in let f = k.bytes in let n = sizes _ _ c.requires in omega arith

pub loop-i-smaller : goal.loop-i-smaller
loop-i-smaller c = let i = grammar_more _ _ c.requires.short _ _ _ _ _ (let h = c.loop-i-test.true in omega arith) c.kind_at.ensures c.if-kind_at-eq-LINE_DOC.false c.loop-i.invariant _ _ _ _ c.check_rule.ensures c.in_ok-rule.was in let j = i.0 in let k = i.1 in let a = k.within in let b = k.rules in let d = k.nodes in let f = k.bytes in let n = sizes _ _ c.requires in omega arith

pub loop-i-preserved : goal.loop-i-preserved
loop-i-preserved c = (grammar_more _ _ c.requires.short _ _ _ _ _ (let h = c.loop-i-test.true in omega arith) c.kind_at.ensures c.if-kind_at-eq-LINE_DOC.false c.loop-i.invariant _ _ _ _ c.check_rule.ensures c.in_ok-rule.was).1

pub returns : goal.returns
returns c = grammar_done _ _ _ _ _ _ (let h = c.loop-i-test.false in omega arith) c.loop-i.invariant
