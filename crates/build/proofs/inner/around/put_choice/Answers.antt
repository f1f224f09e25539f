use Rattle.build.proofs.Loops.{choice_no}
use Rattle.build.proofs.inner.around.put_choice.Goals as goal

clauses_over_left_le_most : {A B : Type 0} → A × B → record { over : A; left_le_most : B }
clauses_over_left_le_most h = record { over = h.0; left_le_most = h.1 }

clauses_answer_table : {A B : Type 0} → A × B → record { answer : A; table : B }
clauses_answer_table h = record { answer = h.0; table = h.1 }

pub returns : goal.returns
returns c = clauses_answer_table (choice_no _ _ _ _ _ _ c.if-chosen.false)
