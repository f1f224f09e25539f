-- The text is a row of six parts: name, ` = `, mark, `{ `, tree, ` }` with LF (`rule_row_lem`). In tables that aren't false the name lies inside
-- the store and the root's tree can be walked; the laws of Rows find room for each part, and put them together.
use Rattle.printer.proofs.Rules.{rule_row_lem, rule_inside, rule_tree}
use Rattle.forms.proofs.Rows.{begin, part_room, go, finish}
use Rattle.table.proofs.Texts.{part_between}
use native.Mathlib.Omega.{arith}
use Rattle.printer.proofs.inner.walks.print_rule.Goals as goal

pub overflow_add-e : goal.overflow_add-e
overflow_add-e c =
    let ns = c.args.nodes.now in
    let rs = c.args.rules.now in
    let st = c.args.store.now in
    let h = c.head_at-head.result in
    omega (arith, rule_inside c.args.style ns rs st c.args.k h c.head_at-head.ensures c.requires.valid c.requires.k_bound)

pub slice_bounds-put-end : goal.slice_bounds-put-end
slice_bounds-put-end c =
    let ns = c.args.nodes.now in
    let rs = c.args.rules.now in
    let st = c.args.store.now in
    let h = c.head_at-head.result in
    omega (arith, rule_inside c.args.style ns rs st c.args.k h c.head_at-head.ensures c.requires.valid c.requires.k_bound)

pub put-a1-requires : goal.put-a1-requires
put-a1-requires c =
    let ns = c.args.nodes.now in
    let rs = c.args.rules.now in
    let st = c.args.store.now in
    let h = c.head_at-head.result in
    let g = begin (rule_row_lem c.args.style ns rs st c.args.k h c.head_at-head.ensures) c.requires.room in
    let b = part_between st h.offset h.length in
    rw b (part_room g)

pub put-a2-requires : goal.put-a2-requires
put-a2-requires c =
    let ns = c.args.nodes.now in
    let rs = c.args.rules.now in
    let st = c.args.store.now in
    let h = c.head_at-head.result in
    let g = begin (rule_row_lem c.args.style ns rs st c.args.k h c.head_at-head.ensures) c.requires.room in
    let b = part_between st h.offset h.length in
    part_room (go g (rw b at c.put-a1.ensures))

pub put_mark-a3-requires : goal.put_mark-a3-requires
put_mark-a3-requires c =
    let ns = c.args.nodes.now in
    let rs = c.args.rules.now in
    let st = c.args.store.now in
    let h = c.head_at-head.result in
    let g = begin (rule_row_lem c.args.style ns rs st c.args.k h c.head_at-head.ensures) c.requires.room in
    let b = part_between st h.offset h.length in
    part_room (go (go g (rw b at c.put-a1.ensures)) c.put-a2.ensures)

pub put-a4-requires : goal.put-a4-requires
put-a4-requires c =
    let ns = c.args.nodes.now in
    let rs = c.args.rules.now in
    let st = c.args.store.now in
    let h = c.head_at-head.result in
    let g = begin (rule_row_lem c.args.style ns rs st c.args.k h c.head_at-head.ensures) c.requires.room in
    let b = part_between st h.offset h.length in
    part_room (go (go (go g (rw b at c.put-a1.ensures)) c.put-a2.ensures) c.put_mark-a3.ensures)

pub write-a5-requires : goal.write-a5-requires
write-a5-requires c =
    let ns = c.args.nodes.now in
    let rs = c.args.rules.now in
    let st = c.args.store.now in
    let h = c.head_at-head.result in
    let g = begin (rule_row_lem c.args.style ns rs st c.args.k h c.head_at-head.ensures) c.requires.room in
    let b = part_between st h.offset h.length in
    record {
      sound_up_to = rule_tree c.args.style ns rs st c.args.k h c.head_at-head.ensures c.requires.valid c.requires.k_bound;
      room = part_room (go (go (go (go g (rw b at c.put-a1.ensures)) c.put-a2.ensures) c.put_mark-a3.ensures) c.put-a4.ensures);
    }

pub put-requires : goal.put-requires
put-requires c =
    let ns = c.args.nodes.now in
    let rs = c.args.rules.now in
    let st = c.args.store.now in
    let h = c.head_at-head.result in
    let g = begin (rule_row_lem c.args.style ns rs st c.args.k h c.head_at-head.ensures) c.requires.room in
    let b = part_between st h.offset h.length in
    part_room (go (go (go (go (go g (rw b at c.put-a1.ensures)) c.put-a2.ensures) c.put_mark-a3.ensures) c.put-a4.ensures) c.write-a5.ensures)

pub returns : goal.returns
returns c =
    let ns = c.args.nodes.now in
    let rs = c.args.rules.now in
    let st = c.args.store.now in
    let h = c.head_at-head.result in
    let g = begin (rule_row_lem c.args.style ns rs st c.args.k h c.head_at-head.ensures) c.requires.room in
    let b = part_between st h.offset h.length in
    finish (go (go (go (go (go g (rw b at c.put-a1.ensures)) c.put-a2.ensures) c.put_mark-a3.ensures) c.put-a4.ensures) c.write-a5.ensures) c.put.ensures
