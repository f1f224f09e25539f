-- Five returns, each a law of Answers: the three kinds of fault in turn, no room, the string at the front. Each is given what the checks before it found.
-- The room that is spent is one more than there is, so that 0 is left exactly if the string is too long; otherwise `put_unescaped` has its room (`room`).
use mathlib.Core.Path.{sym, ◌∙◌}
use Rattle.literal.proofs.Answers.{room, unescape_not_utf8, unescape_no_escape, unescape_not_scalar, unescape_no_room, unescape_wrote}
use Rattle.literal.proofs.unescape.Goals as goal

clauses_value_out_after : {A B : Type 0} → A × B → record { value : A; out_after : B }
clauses_value_out_after h = record { value = h.0; out_after = h.1 }

pub returns-in-Some : goal.returns-in-Some
returns-in-Some c = clauses_value_out_after (unescape_not_utf8 _ _ _ (sym c.first_bad-utf8.ensures ∙ c.in-Some.is))

pub returns-in-Some-stray : goal.returns-in-Some-stray
returns-in-Some-stray c = clauses_value_out_after (unescape_no_escape _ _ _ (sym c.first_bad-utf8.ensures ∙ c.in_default.is) (sym c.no_escape-stray.ensures ∙ c.in-Some-stray.is))

pub returns-in-Some-bad : goal.returns-in-Some-bad
returns-in-Some-bad c =
    let u = sym c.first_bad-utf8.ensures ∙ c.in_default.is in
    let e = sym c.no_escape-stray.ensures ∙ c.in_default-stray.is in
    clauses_value_out_after (unescape_not_scalar _ _ _ u e (sym c.bad_escape-bad.ensures ∙ c.in-Some-bad.is))

pub returns-then-spend_unescaped-eq0 : goal.returns-then-spend_unescaped-eq0
returns-then-spend_unescaped-eq0 c =
    let u = sym c.first_bad-utf8.ensures ∙ c.in_default.is in
    let e = sym c.no_escape-stray.ensures ∙ c.in_default-stray.is in
    let b = sym c.bad_escape-bad.ensures ∙ c.in_default-bad.is in
    clauses_value_out_after (unescape_no_room _ _ u e b _ c.spend_unescaped.ensures c.if-spend_unescaped-eq0.true)

pub put_unescaped-requires : goal.put_unescaped-requires
put_unescaped-requires c =
    let b = sym c.bad_escape-bad.ensures ∙ c.in_default-bad.is in
    record {
      s_value = b;
      room = room _ _ c.spend_unescaped.ensures c.if-spend_unescaped-eq0.false;
    }

pub returns : goal.returns
returns c =
    let u = sym c.first_bad-utf8.ensures ∙ c.in_default.is in
    let e = sym c.no_escape-stray.ensures ∙ c.in_default-stray.is in
    let b = sym c.bad_escape-bad.ensures ∙ c.in_default-bad.is in
    clauses_value_out_after (unescape_wrote _ _ u e b _ c.spend_unescaped.ensures c.if-spend_unescaped-eq0.false c.put_unescaped.ensures)
