-- What is shown goes by the answer; the line is put into an output that is as it was.
use Rattle.show.proofs.Shows.{text_shown, line_shown}
use Rattle.show.proofs.desk.Goals as goal

clauses_answered_written : {A B : Type 0} → A × B → record { answered : A; written : B }
clauses_answered_written h = record { answered = h.0; written = h.1 }

pub returns-in-Printed : goal.returns-in-Printed
returns-in-Printed c = clauses_answered_written (text_shown _ _ _ c.print_back-answer.ensures.value c.print_back-answer.ensures.out_after c.in-Printed.is)

pub returns-in-Refused : goal.returns-in-Refused
returns-in-Refused c = clauses_answered_written (line_shown _ _ _ c.print_back-answer.ensures.value c.print_back-answer.ensures.out_after c.in-Refused.is
    c.refusal.ensures.answered c.refusal.ensures.written c.refused.ensures)
