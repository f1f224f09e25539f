-- Three questions in their order: is the text too long, is it UTF-8, and what token stands at the place (`next_long`, `next_bad`, `next_good`).
-- `answered` tells each answer in numbers too, which is the second promise.
use mathlib.Core.Path.{sym, ◌∙◌}
use Rattle.token.specs.declared.Token.TheVariants.{Found, End, NoToken}
use Rattle.token.proofs.Lister.{next_long, next_bad, next_good, answered}
use Rattle.token.proofs.next_token.Goals as goal

clauses_answer_numbers : {A B : Type 0} → A × B → record { answer : A; numbers : B }
clauses_answer_numbers h = record { answer = h.0; numbers = h.1 }

pub returns-then-s-gt-TEXT : goal.returns-then-s-gt-TEXT
returns-then-s-gt-TEXT c = clauses_answer_numbers (answered _ _ _ (next_long _ _ c.if-s-gt-TEXT.true))

pub returns-in-Some : goal.returns-in-Some
returns-in-Some c = clauses_answer_numbers (answered _ _ _ (next_bad _ _ c.if-s-gt-TEXT.false _ (sym c.first_bad-utf8.ensures ∙ c.in-Some.is)))

pub returns-in-Found : goal.returns-in-Found
returns-in-Found c = clauses_answer_numbers (answered _ _ _ (next_good _ _ c.if-s-gt-TEXT.false (sym c.first_bad-utf8.ensures ∙ c.in_default.is) (Found _ _ _) (sym c.in-Found.is ∙ c.token_at-token.ensures)))

pub returns-in-End : goal.returns-in-End
returns-in-End c = clauses_answer_numbers (answered _ _ _ (next_good _ _ c.if-s-gt-TEXT.false (sym c.first_bad-utf8.ensures ∙ c.in_default.is) End (sym c.in-End.is ∙ c.token_at-token.ensures)))

pub returns-in-NoToken : goal.returns-in-NoToken
returns-in-NoToken c = clauses_answer_numbers (answered _ _ _ (next_good _ _ c.if-s-gt-TEXT.false (sym c.first_bad-utf8.ensures ∙ c.in_default.is) (NoToken _) (sym c.in-NoToken.is ∙ c.token_at-token.ensures)))
