-- Where `judge` answers Read, the rules are read, every string means characters and there is room: what the building asks for (`build_room`).
-- Then the rules stand at the fronts of the buffers, and their nodes are there to get their lines (`build_nodes`, `build_read`). After any other
-- answer nothing was written (`build_kept`).
use Rattle.reader.proofs.Answers.{build_room, build_nodes, build_read, build_kept}
use Rattle.reader.proofs.inner.phases.judge_and_build.Goals as goal

clauses_answer_left : {A B : Type 0} → A × B → record { answer : A; left : B }
clauses_answer_left h = record { answer = h.0; left = h.1 }

pub consume_rules_with_spans-requires : goal.consume_rules_with_spans-requires
consume_rules_with_spans-requires c =
    let g = build_room _ _ _ _ _ _ _ _ _ c.judge-answer.ensures c.room_of.ensures c.room_of-2.ensures c.in-Ok.is c.requires.short in
    record {
      lent = c.requires;
      scalars = g.0;
      grammar_room = g.1;
    }

pub number_lines-requires : goal.number_lines-requires
number_lines-requires c = record {
  text_len_bound = c.requires.short;
  used_in_bounds = build_nodes _ _ _ _ _ _ _ _ _ c.judge-answer.ensures c.room_of.ensures c.room_of-2.ensures c.in-Ok.is _ _ _ c.consume_rules_with_spans.ensures;
}

pub returns-in-Ok : goal.returns-in-Ok
returns-in-Ok c = rw c.in-Ok.is (clauses_answer_left (build_read _ _ _ _ _ _ _ _ _ c.judge-answer.ensures c.room_of.ensures c.room_of-2.ensures c.in-Ok.is _ _ _ _ c.consume_rules_with_spans.ensures c.number_lines.ensures))

pub returns-in_default : goal.returns-in_default
returns-in_default c = clauses_answer_left (build_kept _ _ _ _ _ _ _ _ _ c.judge-answer.ensures c.room_of.ensures c.room_of-2.ensures _ c.in_default.is)
