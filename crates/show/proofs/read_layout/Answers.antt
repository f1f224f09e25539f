-- The answer of the reading decides the case. Where it succeeded, the rule is looked for in the fronts of the buffers, which are the
-- tables of the text's rules (`fronts`).
use Rattle.show.proofs.Fronts.{fronts, leaves}
use Rattle.show.proofs.Layouts.{layout_refused, layout_read}
use mathlib.Core.Path.{sym}
use lib.Seq.{length-take-le}
use native.Mathlib.Omega.{arith}
use Rattle.show.proofs.read_layout.Goals as goal

pub overflow_mul-n : goal.overflow_mul-n
overflow_mul-n c =
    let h = (fronts _ _ _ _ _ _ _ _ (c.read-reading.ensures.answer, (c.read-reading.ensures.report, (c.read-reading.ensures.nodes, (c.read-reading.ensures.rules, c.read-reading.ensures.store)))) c.in-Ok.is).few_nodes in
    omega arith

pub overflow_mul-r : goal.overflow_mul-r
overflow_mul-r c =
    let h = (fronts _ _ _ _ _ _ _ _ (c.read-reading.ensures.answer, (c.read-reading.ensures.report, (c.read-reading.ensures.nodes, (c.read-reading.ensures.rules, c.read-reading.ensures.store)))) c.in-Ok.is).few_rules in
    omega arith

pub slice_bounds-layout_in-end : goal.slice_bounds-layout_in-end
slice_bounds-layout_in-end c = (fronts _ _ _ _ _ _ _ _ (c.read-reading.ensures.answer, (c.read-reading.ensures.report, (c.read-reading.ensures.nodes, (c.read-reading.ensures.rules, c.read-reading.ensures.store)))) c.in-Ok.is).nodes.0

pub slice_bounds-layout_in-end-in-Ok : goal.slice_bounds-layout_in-end-in-Ok
slice_bounds-layout_in-end-in-Ok c = sym (length-take-le _ _ (fronts _ _ _ _ _ _ _ _ (c.read-reading.ensures.answer, (c.read-reading.ensures.report, (c.read-reading.ensures.nodes, (c.read-reading.ensures.rules, c.read-reading.ensures.store)))) c.in-Ok.is).nodes.0)

pub slice_bounds-layout_in-end-in-Ok-2 : goal.slice_bounds-layout_in-end-in-Ok-2
slice_bounds-layout_in-end-in-Ok-2 c = (fronts _ _ _ _ _ _ _ _ (c.read-reading.ensures.answer, (c.read-reading.ensures.report, (c.read-reading.ensures.nodes, (c.read-reading.ensures.rules, c.read-reading.ensures.store)))) c.in-Ok.is).rules.0

pub slice_bounds-layout_in-end-in-Ok-3 : goal.slice_bounds-layout_in-end-in-Ok-3
slice_bounds-layout_in-end-in-Ok-3 c = sym (length-take-le _ _ (fronts _ _ _ _ _ _ _ _ (c.read-reading.ensures.answer, (c.read-reading.ensures.report, (c.read-reading.ensures.nodes, (c.read-reading.ensures.rules, c.read-reading.ensures.store)))) c.in-Ok.is).rules.0)

pub slice_bounds-layout_in-end-in-Ok-4 : goal.slice_bounds-layout_in-end-in-Ok-4
slice_bounds-layout_in-end-in-Ok-4 c = (fronts _ _ _ _ _ _ _ _ (c.read-reading.ensures.answer, (c.read-reading.ensures.report, (c.read-reading.ensures.nodes, (c.read-reading.ensures.rules, c.read-reading.ensures.store)))) c.in-Ok.is).store.0

pub slice_bounds-layout_in-end-in-Ok-5 : goal.slice_bounds-layout_in-end-in-Ok-5
slice_bounds-layout_in-end-in-Ok-5 c = sym (length-take-le _ _ (fronts _ _ _ _ _ _ _ _ (c.read-reading.ensures.answer, (c.read-reading.ensures.report, (c.read-reading.ensures.nodes, (c.read-reading.ensures.rules, c.read-reading.ensures.store)))) c.in-Ok.is).store.0)

pub returns-in-Ok : goal.returns-in-Ok
returns-in-Ok c = record {
  answered = layout_read _ _ _ _ _ _ _ _ (c.read-reading.ensures.answer, (c.read-reading.ensures.report, (c.read-reading.ensures.nodes, (c.read-reading.ensures.rules, c.read-reading.ensures.store)))) _ c.in-Ok.is c.layout_in.ensures;
  tables = leaves _ _ _ _ _ _ _ _ (c.read-reading.ensures.answer, (c.read-reading.ensures.report, (c.read-reading.ensures.nodes, (c.read-reading.ensures.rules, c.read-reading.ensures.store))));
}

pub returns-in-Err : goal.returns-in-Err
returns-in-Err c = record {
  answered = layout_refused _ _ _ _ _ _ _ _ (c.read-reading.ensures.answer, (c.read-reading.ensures.report, (c.read-reading.ensures.nodes, (c.read-reading.ensures.rules, c.read-reading.ensures.store)))) _ c.in-Err.is c.number_of.ensures;
  tables = leaves _ _ _ _ _ _ _ _ (c.read-reading.ensures.answer, (c.read-reading.ensures.report, (c.read-reading.ensures.nodes, (c.read-reading.ensures.rules, c.read-reading.ensures.store))));
}
