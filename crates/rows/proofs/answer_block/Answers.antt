-- The records of a call that ran are the answers in numbers; a refused call leaves the output as it was.
use Rattle.replies.specs.declared.RunError.{RunError}
use Rattle.std.proofs.Common.{rules}
use Rattle.std.specs.Prelude.{Err}
use mathlib.Core.Path.{ap, ◌∙◌, ◌≡◌}
use Rattle.rows.proofs.Blocks.{no_room, block_false, block_unfit, block_none, block_few, block_ran}
use native.Mathlib.Omega.{arith}
use Rattle.rows.proofs.answer_block.Goals as goal

clauses_answered_written_inside : {A B C : Type 0} → A × (B × C) → record { answered : A; written : B; inside : C }
clauses_answered_written_inside h = record { answered = h.0; written = h.1.0; inside = h.1.1 }

pub returns-then-out-lt54272 : goal.returns-then-out-lt54272
returns-then-out-lt54272 c = clauses_answered_written_inside (no_room _ _ _ _ _ _ _ c.if-out-lt54272.true)

pub put_rows-rows-requires : goal.put_rows-rows-requires
put_rows-rows-requires c =
    let k = block_few _ _ _ _ _ c.args.allowance c.args.out.now c.if-out-lt54272.false c.match_lines-ran.ensures.value c.in-Ok.is in
    record {
      k_in_bounds = omega arith;
      k_in_bounds_2 = omega arith;
    }

pub returns-in-Ok : goal.returns-in-Ok
returns-in-Ok c = clauses_answered_written_inside (block_ran _ _ _ _ _ _ _ c.if-out-lt54272.false c.match_lines-ran.ensures.value c.in-Ok.is c.match_lines-ran.ensures.records_after
    c.put_rows-rows.ensures.wrote c.put_rows-rows.ensures.refused_value c.put_rows-rows.ensures.size_bound)

pub returns-in-Err-FalseTables : goal.returns-in-Err-FalseTables
returns-in-Err-FalseTables c =
    let q : c.match_lines-ran.result ≡ Err RunError.FalseTables = search rules in
    clauses_answered_written_inside (block_false _ _ _ _ _ _ _ c.if-out-lt54272.false c.match_lines-ran.ensures.value q c.refused_block.ensures)

pub returns-in-Err-Unfit : goal.returns-in-Err-Unfit
returns-in-Err-Unfit c =
    let q : c.match_lines-ran.result ≡ Err (RunError.Unfit c.in-Err-Unfit.i) = search rules in
    clauses_answered_written_inside (block_unfit _ _ _ _ _ _ _ c.if-out-lt54272.false c.match_lines-ran.ensures.value q c.refused_block-in-Err-Unfit.ensures)

pub returns-in-Err-NoRule : goal.returns-in-Err-NoRule
returns-in-Err-NoRule c =
    let q : c.match_lines-ran.result ≡ Err RunError.NoRule = search rules in
    clauses_answered_written_inside (block_none _ _ _ _ _ _ _ c.if-out-lt54272.false c.match_lines-ran.ensures.value q c.refused_block-in-Err-NoRule.ensures)
