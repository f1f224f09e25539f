use Rattle.printer.proofs.Nodes.{leaf_spent, one_spent, two_spent}
use Rattle.forms.proofs.Measures.{spent_zero}
use Rattle.table.proofs.Nodes.{sound_tip, sound_one, sound_two, sound_unknown, sound_below}
use native.Mathlib.Omega.{arith}
use mathlib.Core.Path.{refl, sym, ◌∙◌}
use Rattle.printer.proofs.inner.walks.+measure.Goals as goal

pub returns-then-left-eq0 : goal.returns-then-left-eq0
returns-then-left-eq0 t c = spent_zero _ _ c.if-left-eq0.true

pub node_at-node-requires : goal.node_at-node-requires
node_at-node-requires t c = c.requires.whole

pub spend_leaf-requires : goal.spend_leaf-requires
spend_leaf-requires t c =
    let ns = c.args.nodes.now in
    let st = c.args.store.now in
    let i = c.args.i in
    let e = sym c.node_at-node.ensures ∙ c.in-Tip.is in
    sound_tip ns st i c.requires e

pub spend_op-inside-requires : goal.spend_op-inside-requires
spend_op-inside-requires t c =
    let ns = c.args.nodes.now in
    let st = c.args.store.now in
    let i = c.args.i in
    let e = sym c.node_at-node.ensures ∙ c.in-One.is in
    (sound_one ns st i c.requires e).1

pub measure-requires : goal.measure-requires
measure-requires t c =
    let ns = c.args.nodes.now in
    let st = c.args.store.now in
    let i = c.args.i in
    let e = sym c.node_at-node.ensures ∙ c.in-One.is in
    let b = sound_one ns st i c.requires e in
    (omega (arith, b.0), sound_below _ (omega (arith, b.0)) c.requires)

pub measure-right-requires : goal.measure-right-requires
measure-right-requires t c =
    let ns = c.args.nodes.now in
    let st = c.args.store.now in
    let i = c.args.i in
    let e = sym c.node_at-node.ensures ∙ c.in-Two.is in
    let b = sound_two ns st i c.requires e in
    (omega (arith, b.2), sound_below _ (omega (arith, b.2)) c.requires)

pub measure-requires-in-Two : goal.measure-requires-in-Two
measure-requires-in-Two t c =
    let ns = c.args.nodes.now in
    let st = c.args.store.now in
    let i = c.args.i in
    let e = sym c.node_at-node.ensures ∙ c.in-Two.is in
    let b = sound_two ns st i c.requires e in
    (omega (arith, b.0), sound_below _ (omega (arith, b.0)) c.requires)

pub returns-in-Tip : goal.returns-in-Tip
returns-in-Tip t c =
    let ns = c.args.nodes.now in
    let st = c.args.store.now in
    let i = c.args.i in
    let e = sym c.node_at-node.ensures ∙ c.in-Tip.is in
    leaf_spent c.args.style ns st i c.args.place e refl c.leaf_brackets-on.ensures _ c.spend_brackets.ensures c.spend_leaf.ensures

pub returns-in-One : goal.returns-in-One
returns-in-One t c =
    let ns = c.args.nodes.now in
    let st = c.args.store.now in
    let i = c.args.i in
    let e = sym c.node_at-node.ensures ∙ c.in-One.is in
    one_spent c.args.style ns st i c.args.place c.requires e c.op_form-form.ensures c.brackets-on.ensures c.under.ensures _ c.spend_brackets-in-One.ensures c.spend_op-inside.ensures c.measure.ensures

pub returns-in-Two : goal.returns-in-Two
returns-in-Two t c =
    let ns = c.args.nodes.now in
    let st = c.args.store.now in
    let i = c.args.i in
    let e = sym c.node_at-node.ensures ∙ c.in-Two.is in
    two_spent c.args.style ns st i c.args.place c.requires e c.join_brackets-on.ensures _ c.spend_brackets-in-Two.ensures c.spend-inside.ensures c.measure-right.ensures c.measure-in-Two.ensures

pub returns-in-Unknown : goal.returns-in-Unknown
returns-in-Unknown t c =
    let ns = c.args.nodes.now in
    let st = c.args.store.now in
    let i = c.args.i in
    let e = sym c.node_at-node.ensures ∙ c.in-Unknown.is in
    absurd (sound_unknown ns st i c.requires e)
