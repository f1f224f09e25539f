use Rattle.build.proofs.Rules.{rules_start, rules_done, rules_doc_more, rules_room, rules_more}
use native.Mathlib.Omega.{arith}
use Rattle.build.proofs.inner.rules.consume_rules_with_spans.Goals as goal

pub loop-i-init : goal.loop-i-init
loop-i-init c = rules_start _ _ _ _ _ _ _ c.docs_end-i.ensures c.requires.grammar_room.read

pub loop-i-preserved-then-kind_at-eq-LINE_DOC : goal.loop-i-preserved-then-kind_at-eq-LINE_DOC
loop-i-preserved-then-kind_at-eq-LINE_DOC c =
    let h = c.loop-i-test.true in
    rules_doc_more _ _ _ _ _ _ _ _ _ _ _ _ _ c.loop-i.invariant (omega arith) _ c.kind_at.ensures c.if-kind_at-eq-LINE_DOC.true

pub consume_rule-rule-requires : goal.consume_rule-rule-requires
consume_rule-rule-requires c =
    let h = c.loop-i-test.true in
    record {
      lent = c.requires.lent;
      scalars = c.requires.scalars;
      rule_room = rules_room _ _ _ _ _ _ _ _ _ _ _ _ _ c.loop-i.invariant (omega arith) _ c.kind_at.ensures c.if-kind_at-eq-LINE_DOC.false c.requires.grammar_room;
    }

pub loop-i-smaller : goal.loop-i-smaller
loop-i-smaller c =
    let h = c.loop-i-test.true in
    let m = rules_more _ _ _ _ _ _ _ _ _ _ _ _ _ c.loop-i.invariant (omega arith) _ c.kind_at.ensures c.if-kind_at-eq-LINE_DOC.false c.requires.lent.short _ _ _ _ c.consume_rule-rule.ensures in
    let a = m.0 in
    let b = m.1.within in
    omega arith

pub loop-i-preserved : goal.loop-i-preserved
loop-i-preserved c =
    let h = c.loop-i-test.true in
    (rules_more _ _ _ _ _ _ _ _ _ _ _ _ _ c.loop-i.invariant (omega arith) _ c.kind_at.ensures c.if-kind_at-eq-LINE_DOC.false c.requires.lent.short _ _ _ _ c.consume_rule-rule.ensures).1

pub returns : goal.returns
returns c =
    let h = c.loop-i-test.false in
    rules_done _ _ _ _ _ _ _ _ _ _ _ _ _ c.loop-i.invariant (omega arith) c.requires.grammar_room
