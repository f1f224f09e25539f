-- A rule was read here: a name, a mark, and an expression. The name goes into the store, then the tree is built behind it, then the rule's record is put.
-- Room for the rule is room for each (`name_room`, `body_room`, `rule_fits`), and together they are the rule in the buffers (`rule_built`).
use Rattle.build.proofs.Rules.{mark_near, past_inside}
use Rattle.build.proofs.Rules.{rule_inside, name_inside, name_room, body_room, rule_fits, rule_built}
use native.Mathlib.Omega.{arith}
use Rattle.build.proofs.inner.rules.consume_rule.Goals as goal

pub put_bytes-named-requires : goal.put_bytes-named-requires
put_bytes-named-requires c = record {
  a_le_z = name_inside _ _ _ _ _ _ _ _ _ c.requires.lent.short c.requires.rule_room _ _ c.start_at-a.ensures c.end_at-z.ensures;
  room = name_room _ _ _ _ _ _ _ _ _ c.requires.lent.short c.requires.rule_room _ _ c.start_at-a.ensures c.end_at-z.ensures;
}

pub overflow_add-at : goal.overflow_add-at
overflow_add-at c =
    let p = rule_inside _ _ _ _ _ _ _ _ _ c.requires.lent.short c.requires.rule_room in
    omega arith

pub overflow_add-at-2 : goal.overflow_add-at-2
overflow_add-at-2 c =
    let p = rule_inside _ _ _ _ _ _ _ _ _ c.requires.lent.short c.requires.rule_room in
    omega arith

pub overflow_add-at-3 : goal.overflow_add-at-3
overflow_add-at-3 c =
    let p = rule_inside _ _ _ _ _ _ _ _ _ c.requires.lent.short c.requires.rule_room in
    omega arith

pub overflow_add-at-4 : goal.overflow_add-at-4
overflow_add-at-4 c =
    let p = rule_inside _ _ _ _ _ _ _ _ _ c.requires.lent.short c.requires.rule_room in
    omega arith

pub overflow_add-open : goal.overflow_add-open
overflow_add-open c =
    let p = rule_inside _ _ _ _ _ _ _ _ _ c.requires.lent.short c.requires.rule_room in
    let m = mark_near _ _ _ c.past_mark-open.ensures in
    omega arith

pub consume_expr-tree-requires : goal.consume_expr-tree-requires
consume_expr-tree-requires c = record {
  lent = c.requires.lent;
  scalars = c.requires.scalars;
  tree_room = body_room _ _ _ _ _ _ _ _ _ c.requires.lent.short c.requires.rule_room _ _ c.start_at-a.ensures c.end_at-z.ensures _ _ c.put_bytes-named.ensures _ c.mark_at-mark.ensures _ c.past_mark-open.ensures _ c.past_bar-body.ensures;
}

pub overflow_sub-z : goal.overflow_sub-z
overflow_sub-z c =
    let p = name_inside _ _ _ _ _ _ _ _ _ c.requires.lent.short c.requires.rule_room _ _ c.start_at-a.ensures c.end_at-z.ensures in
    omega arith

pub put_rule-requires : goal.put_rule-requires
put_rule-requires c = rule_fits _ _ _ _ _ _ _ _ _ c.requires.lent.short c.requires.rule_room _ _ c.start_at-a.ensures c.end_at-z.ensures _ _ c.put_bytes-named.ensures _ c.mark_at-mark.ensures _ c.past_mark-open.ensures _ c.past_bar-body.ensures _ _ _ c.consume_expr-tree.ensures

pub overflow_add-result : goal.overflow_add-result
overflow_add-result c =
    let p = past_inside _ _ _ _ _ _ _ _ _ c.requires.lent.short c.requires.rule_room _ _ c.start_at-a.ensures c.end_at-z.ensures _ _ c.put_bytes-named.ensures _ c.mark_at-mark.ensures _ c.past_mark-open.ensures _ c.past_bar-body.ensures _ _ _ c.consume_expr-tree.ensures in
    omega arith

pub returns : goal.returns
returns c = rule_built _ _ _ _ _ _ _ _ _ c.requires.lent.short c.requires.rule_room _ _ c.start_at-a.ensures c.end_at-z.ensures _ _ c.put_bytes-named.ensures _ c.mark_at-mark.ensures _ c.past_mark-open.ensures _ c.past_bar-body.ensures _ _ _ c.consume_expr-tree.ensures _ c.put_rule.ensures
