-- A number takes one byte more than its tenth (`decimal_more`); the number falls at the call.
-- What is spent on one text and then on another is spent on both in a row (`spent_append`).
use Rattle.text.proofs.inner.digits.+spend_number.Given as goal

abbrev pub decreases-spend_number : goal.decreases-spend_number
decreases-spend_number l = l.n
