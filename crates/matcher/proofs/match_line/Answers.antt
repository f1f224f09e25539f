-- Where nothing is refused, the links make the table the program, so that the run is that of the definition.
use Rattle.replies.specs.declared.RunError.{RunError}
use Rattle.std.proofs.Common.{rules}
use Rattle.std.specs.Prelude.{Err}
use mathlib.Core.Path.{ap, ◌∙◌, ◌≡◌}
use Prim.Native.Nat.{ℕ}
use lib.ListN.{length-replicate}
use Rattle.table.specs.Characters.{max_nodes}
use Rattle.matcher.proofs.Answering.{call_there, call_sound, call_root, answer_yes, answer_false, answer_unfit, answer_none}
use Rattle.matcher.proofs.match_line.Goals as goal

pub prepare-ready-requires : goal.prepare-ready-requires
prepare-ready-requires c = length-replicate {A = ℕ} max_nodes 0

pub root_of-root-requires : goal.root_of-root-requires
root_of-root-requires c = call_there _ _ _ _ c.prepare-ready.ensures.value c.in-Ok.is

pub run_line-requires : goal.run_line-requires
run_line-requires c = record {
  runnable = call_sound _ _ _ _ c.prepare-ready.ensures.value c.in-Ok.is _ (c.prepare-ready.ensures.linked c.in-Ok.is);
  root_bound = call_root _ _ _ _ c.prepare-ready.ensures.value c.in-Ok.is _ (c.prepare-ready.ensures.linked c.in-Ok.is) c.root_of-root.ensures;
}

pub returns-in-Ok : goal.returns-in-Ok
returns-in-Ok c = answer_yes _ _ _ _ c.prepare-ready.ensures.value _ _ c.in-Ok.is _ (c.prepare-ready.ensures.linked c.in-Ok.is) c.root_of-root.ensures c.run_line.ensures

pub returns-in-Err-FalseTables : goal.returns-in-Err-FalseTables
returns-in-Err-FalseTables c =
    let q : c.prepare-ready.result ≡ Err RunError.FalseTables = search rules in
    answer_false _ _ _ _ c.prepare-ready.ensures.value _ _ q

pub returns-in-Err-Unfit : goal.returns-in-Err-Unfit
returns-in-Err-Unfit c =
    let q : c.prepare-ready.result ≡ Err (RunError.Unfit c.in-Err-Unfit.i) = search rules in
    answer_unfit _ _ _ _ c.prepare-ready.ensures.value _ _ q

pub returns-in-Err-NoRule : goal.returns-in-Err-NoRule
returns-in-Err-NoRule c =
    let q : c.prepare-ready.result ≡ Err RunError.NoRule = search rules in
    answer_none _ _ _ _ c.prepare-ready.ensures.value _ _ q
