-- Past the spaces the token is the same (`past_spaces`). A word and a single byte are what Places says of their classes; of any other byte
-- `token_at` tells it.
use mathlib.Core.Path.{◌∙◌}
use native.Mathlib.Omega.{arith}
use Rattle.token.proofs.Places.{at_over, at_word, at_one}
use Rattle.token.proofs.inner.near_token.Goals as goal

pub returns-then-s-i : goal.returns-then-s-i
returns-then-s-i c = at_over _ _ c.if-s-i.true ∙ c.past_spaces-i.ensures

pub returns-in-2 : goal.returns-in-2
returns-in-2 c = at_word _ _ (omega (arith, c.if-s-i.false)) _ c.class-c.ensures c.in-2.is _ c.word_at.ensures ∙ c.past_spaces-i.ensures

pub returns-in-4 : goal.returns-in-4
returns-in-4 c = at_one _ _ (omega (arith, c.if-s-i.false)) _ c.class-c.ensures c.in-4.is _ c.one_kind.ensures ∙ c.past_spaces-i.ensures

pub returns-in_default : goal.returns-in_default
returns-in_default c = c.token_at.ensures ∙ c.past_spaces-i.ensures
