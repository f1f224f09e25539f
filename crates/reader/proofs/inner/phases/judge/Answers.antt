-- The returns go through `judged_of` in its order: a refusal of the structure (`judge_refused`), a fault of a value (`judge_by`), then room (`judge_room`).
-- What `check_grammar` counts are the rules, nodes and bytes of the rules that `judged_of` has, so that both ask for the same room.
use Rattle.std.proofs.lemmas.Result.{err_from_is_err_and}
use Rattle.reader.proofs.Answers.{judge_refused, judge_by, judge_room}
use Rattle.reader.proofs.inner.phases.judge.Goals as goal

pub returns-in_err-counts : goal.returns-in_err-counts
returns-in_err-counts c =
    let p = err_from_is_err_and c.from_residual.result c.from_residual.ensures.1 in
    rw (p.1, p.2) (judge_refused _ _ _ _ _ _ _ c.check_grammar.ensures _ c.in_err-counts.was)

pub returns-in-Some : goal.returns-in-Some
returns-in-Some c = judge_by _ _ _ _ _ _ _ c.check_grammar.ensures _ _ _ c.in_ok-counts.was _ c.faults.ensures _ c.in-Some.is

pub returns : goal.returns
returns c = judge_room _ _ _ _ _ _ _ c.check_grammar.ensures _ _ _ c.in_ok-counts.was _ c.faults.ensures c.in_default.is _ c.room_for.ensures
