-- Three returns, each a law of Answers: no UTF-8 (`format_not_utf8`), no room (`format_no_room`), the literal at the front (`format_wrote`).
-- The room that is spent is one more than there is, so that 0 is left exactly if the literal is too long; otherwise `put_literal` has its room (`room`).
use mathlib.Core.Path.{sym, ◌∙◌}
use Rattle.literal.proofs.Answers.{room, format_not_utf8, format_no_room, format_wrote}
use Rattle.literal.proofs.fmt_literal.Goals as goal

clauses_value_out_after : {A B : Type 0} → A × B → record { value : A; out_after : B }
clauses_value_out_after h = record { value = h.0; out_after = h.1 }

pub returns-in-Some : goal.returns-in-Some
returns-in-Some c = clauses_value_out_after (format_not_utf8 _ _ _ _ (sym c.first_bad-utf8.ensures ∙ c.in-Some.is))

pub returns-then-spend_literal-eq0 : goal.returns-then-spend_literal-eq0
returns-then-spend_literal-eq0 c = clauses_value_out_after (format_no_room _ _ _ (sym c.first_bad-utf8.ensures ∙ c.in_default.is) _ c.quote_byte-q.ensures _ c.spend_literal.ensures c.if-spend_literal-eq0.true)

pub put_literal-requires : goal.put_literal-requires
put_literal-requires c = room _ _ c.spend_literal.ensures c.if-spend_literal-eq0.false

pub returns : goal.returns
returns c = clauses_value_out_after (format_wrote _ _ _ (sym c.first_bad-utf8.ensures ∙ c.in_default.is) _ c.quote_byte-q.ensures _ c.spend_literal.ensures c.if-spend_literal-eq0.false c.put_literal.ensures)
