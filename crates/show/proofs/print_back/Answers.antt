-- The answer of the reading decides the case. Where it succeeded, the printer is lent the fronts of the buffers, which are the tables
-- of the text's rules (`fronts`).
use Rattle.show.proofs.Fronts.{fronts}
use Rattle.show.proofs.Answers.{zeros, read_refused, print_answers}
use mathlib.Core.Path.{sym}
use lib.Seq.{length-take-le}
use native.Mathlib.Omega.{arith}
use Rattle.show.proofs.print_back.Goals as goal

clauses_value_out_after : {A B : Type 0} → A × B → record { value : A; out_after : B }
clauses_value_out_after h = record { value = h.0; out_after = h.1 }

pub overflow_mul-n : goal.overflow_mul-n
overflow_mul-n c =
    let h = (fronts _ _ _ _ _ _ _ _ (c.read-reading.ensures.answer, (c.read-reading.ensures.report, (c.read-reading.ensures.nodes, (c.read-reading.ensures.rules, c.read-reading.ensures.store)))) c.in-Ok.is).few_nodes in
    omega arith

pub overflow_mul-r : goal.overflow_mul-r
overflow_mul-r c =
    let h = (fronts _ _ _ _ _ _ _ _ (c.read-reading.ensures.answer, (c.read-reading.ensures.report, (c.read-reading.ensures.nodes, (c.read-reading.ensures.rules, c.read-reading.ensures.store)))) c.in-Ok.is).few_rules in
    omega arith

pub slice_bounds-nodes-end : goal.slice_bounds-nodes-end
slice_bounds-nodes-end c = (fronts _ _ _ _ _ _ _ _ (c.read-reading.ensures.answer, (c.read-reading.ensures.report, (c.read-reading.ensures.nodes, (c.read-reading.ensures.rules, c.read-reading.ensures.store)))) c.in-Ok.is).nodes.0

pub slice_bounds-print-end : goal.slice_bounds-print-end
slice_bounds-print-end c = sym (length-take-le _ _ (fronts _ _ _ _ _ _ _ _ (c.read-reading.ensures.answer, (c.read-reading.ensures.report, (c.read-reading.ensures.nodes, (c.read-reading.ensures.rules, c.read-reading.ensures.store)))) c.in-Ok.is).nodes.0)

pub slice_bounds-rules-end : goal.slice_bounds-rules-end
slice_bounds-rules-end c = (fronts _ _ _ _ _ _ _ _ (c.read-reading.ensures.answer, (c.read-reading.ensures.report, (c.read-reading.ensures.nodes, (c.read-reading.ensures.rules, c.read-reading.ensures.store)))) c.in-Ok.is).rules.0

pub slice_bounds-print-end-in-Ok : goal.slice_bounds-print-end-in-Ok
slice_bounds-print-end-in-Ok c = sym (length-take-le _ _ (fronts _ _ _ _ _ _ _ _ (c.read-reading.ensures.answer, (c.read-reading.ensures.report, (c.read-reading.ensures.nodes, (c.read-reading.ensures.rules, c.read-reading.ensures.store)))) c.in-Ok.is).rules.0)

pub slice_bounds-store-end : goal.slice_bounds-store-end
slice_bounds-store-end c = (fronts _ _ _ _ _ _ _ _ (c.read-reading.ensures.answer, (c.read-reading.ensures.report, (c.read-reading.ensures.nodes, (c.read-reading.ensures.rules, c.read-reading.ensures.store)))) c.in-Ok.is).store.0

pub slice_bounds-print-end-in-Ok-2 : goal.slice_bounds-print-end-in-Ok-2
slice_bounds-print-end-in-Ok-2 c = sym (length-take-le _ _ (fronts _ _ _ _ _ _ _ _ (c.read-reading.ensures.answer, (c.read-reading.ensures.report, (c.read-reading.ensures.nodes, (c.read-reading.ensures.rules, c.read-reading.ensures.store)))) c.in-Ok.is).store.0)

pub returns-in-Ok : goal.returns-in-Ok
returns-in-Ok c = clauses_value_out_after (print_answers _ _ _ _ _ _ _ _ (c.read-reading.ensures.answer, (c.read-reading.ensures.report, (c.read-reading.ensures.nodes, (c.read-reading.ensures.rules, c.read-reading.ensures.store)))) (zeros _) (zeros _) (zeros _) _ _ c.in-Ok.is (c.print.ensures.value, (c.print.ensures.result_value, c.print.ensures.out_after)) c.answer_of.ensures)

pub returns-in-Err : goal.returns-in-Err
returns-in-Err c = clauses_value_out_after (read_refused _ _ _ _ _ _ _ _ (c.read-reading.ensures.answer, (c.read-reading.ensures.report, (c.read-reading.ensures.nodes, (c.read-reading.ensures.rules, c.read-reading.ensures.store)))) (zeros _) (zeros _) (zeros _) _ _ c.in-Err.is c.number_of.ensures)
