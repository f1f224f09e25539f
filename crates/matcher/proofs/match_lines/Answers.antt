-- Where nothing is refused, the links make the table the program; a refusal leaves the records as they were.
use Rattle.std.proofs.lemmas.Result.{err_from_is_err_and}
use Prim.Native.Nat.{ℕ}
use lib.ListN.{length-replicate}
use Rattle.table.specs.Characters.{max_nodes}
use Rattle.matcher.proofs.Answering.{call_there, call_sound, call_root, lines_yes, lines_refused}
use Rattle.matcher.proofs.match_lines.Goals as goal

clauses_value_records_after : {A B : Type 0} → A × B → record { value : A; records_after : B }
clauses_value_records_after h = record { value = h.0; records_after = h.1 }

pub prepare-requires : goal.prepare-requires
prepare-requires c = length-replicate {A = ℕ} max_nodes 0

pub root_of-root-requires : goal.root_of-root-requires
root_of-root-requires c = call_there _ _ _ _ c.prepare.ensures.value c.in_ok-prepare.was

pub run_lines-requires : goal.run_lines-requires
run_lines-requires c = record {
  runnable = call_sound _ _ _ _ c.prepare.ensures.value c.in_ok-prepare.was _ (c.prepare.ensures.linked c.in_ok-prepare.was);
  root_bound = call_root _ _ _ _ c.prepare.ensures.value c.in_ok-prepare.was _ (c.prepare.ensures.linked c.in_ok-prepare.was) c.root_of-root.ensures;
}

pub returns : goal.returns
returns c = clauses_value_records_after (lines_yes _ _ _ _ c.prepare.ensures.value _ _ _ c.in_ok-prepare.was _ (c.prepare.ensures.linked c.in_ok-prepare.was) c.root_of-root.ensures c.run_lines.ensures.value c.run_lines.ensures.records_after)

pub returns-in_err-prepare : goal.returns-in_err-prepare
returns-in_err-prepare c =
    let p = err_from_is_err_and c.from_residual.result c.from_residual.ensures.1 in
    rw (p.1, p.2) (clauses_value_records_after (lines_refused _ _ _ _ c.prepare.ensures.value _ _ _ c.in_err-prepare.was))
