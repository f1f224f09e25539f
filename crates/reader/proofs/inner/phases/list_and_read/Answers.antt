-- By what `fill` answers: a full table (`list_and_read_full`), a place with no token (`list_and_read_stopped`), or all n tokens.
-- In that case the first n rows of the table are the text's tokens and nothing else (`lent`), as `build` asks, whose answer is handed on.
use Rattle.reader.proofs.Answers.{list_and_read_full, list_and_read_stopped, list_and_read_filled, few_numbers, room_in, takes, lent}
use mathlib.Core.Path.{◌≡◌}
use Rattle.std.proofs.Common.{rules}
use Rattle.std.specs.Prelude.{Err}
use Rattle.token.specs.declared.FillError.{FillError}
use native.Mathlib.Omega.{arith}
use Rattle.reader.proofs.inner.phases.list_and_read.Goals as goal

clauses_answer_left : {A B : Type 0} → A × B → record { answer : A; left : B }
clauses_answer_left h = record { answer = h.0; left = h.1 }

pub overflow_mul-m : goal.overflow_mul-m
overflow_mul-m c =
    let few = few_numbers c.args.text.now c.args.tokens.now _ c.fill-filled.ensures.answer _ c.in-Ok.is c.requires.text_len_bound in
    omega arith

pub slice_bounds-judge_and_build-end : goal.slice_bounds-judge_and_build-end
slice_bounds-judge_and_build-end c = room_in c.args.text.now c.args.tokens.now _ c.fill-filled.ensures.answer _ c.in-Ok.is _ c.fill-filled.ensures.held

pub slice_bounds-judge_and_build-end-in-Ok : goal.slice_bounds-judge_and_build-end-in-Ok
slice_bounds-judge_and_build-end-in-Ok c = takes c.args.text.now c.args.tokens.now _ c.fill-filled.ensures.answer _ c.in-Ok.is _ c.fill-filled.ensures.held

pub judge_and_build-requires : goal.judge_and_build-requires
judge_and_build-requires c = lent c.args.text.now c.args.tokens.now _ c.fill-filled.ensures.answer _ c.in-Ok.is _ c.fill-filled.ensures.held c.requires.text_len_bound

pub returns-in-Err-Full : goal.returns-in-Err-Full
returns-in-Err-Full c =
    let q : c.fill-filled.result ≡ Err FillError.Full = search rules in
    clauses_answer_left (list_and_read_full c.args.text.now c.args.tokens.now _ c.fill-filled.ensures.answer _ _ _ _ _ _ _ _ q)

pub returns-in-Err-NoToken : goal.returns-in-Err-NoToken
returns-in-Err-NoToken c =
    let q : c.fill-filled.result ≡ Err (FillError.NoToken c.in-Err-NoToken.place) = search rules in
    clauses_answer_left (list_and_read_stopped c.args.text.now c.args.tokens.now _ c.fill-filled.ensures.answer _ _ _ _ _ _ _ _ _ q _ c.refused.ensures)

pub returns-in-Ok : goal.returns-in-Ok
returns-in-Ok c = record {
  answer = list_and_read_filled c.args.text.now c.args.tokens.now _ c.fill-filled.ensures.answer _ c.in-Ok.is _ _ _ _ _ _ c.judge_and_build.ensures.answer;
  left = c.judge_and_build.ensures.left;
}
