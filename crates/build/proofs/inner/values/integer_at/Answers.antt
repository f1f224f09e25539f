-- The kind of the token says the sign: 21 is a negative number, whose worth is negated (`integer_negative`); any other is its worth (`integer_positive`).
use Rattle.build.proofs.Worths.{integer_negative, integer_positive}
use Rattle.build.proofs.inner.values.integer_at.Goals as goal

pub returns-then-kind_at-eq-NEGATIVE_NUMBER : goal.returns-then-kind_at-eq-NEGATIVE_NUMBER
returns-then-kind_at-eq-NEGATIVE_NUMBER c = integer_negative _ _ _ c.kind_at.ensures _ _ c.integer_of.ensures c.worth_of-n.ensures c.if-kind_at-eq-NEGATIVE_NUMBER.true _ c.negate.ensures

pub returns : goal.returns
returns c = integer_positive _ _ _ c.kind_at.ensures _ _ c.integer_of.ensures c.worth_of-n.ensures c.if-kind_at-eq-NEGATIVE_NUMBER.false
