-- By what the number is worth, a law of Faults for each way: too large is a fault; 0 is one exactly where `}` follows; all else is sound.
use Rattle.structure.proofs.Faults.{repeat_zero, repeat_least}
use native.Mathlib.Omega.{arith}
use Rattle.token.proofs.Table.{sizes}
use Rattle.structure.proofs.inner.values.repeat_fault.Goals as goal

pub overflow_add-at : goal.overflow_add-at
overflow_add-at c = let z = sizes _ _ c.requires.lent in omega arith

pub returns-then-kind_at-eq-CLOSING_BRACE : goal.returns-then-kind_at-eq-CLOSING_BRACE
returns-then-kind_at-eq-CLOSING_BRACE c = repeat_zero _ _ _ _ _ c.number_of-value.ensures _ c.in-Ok.is c.if-n-ne0.false _ c.kind_at.ensures c.if-kind_at-eq-CLOSING_BRACE.true _ c.refused_at-then-kind_at-eq-CLOSING_BRACE.ensures

pub returns-else-kind_at-eq-CLOSING_BRACE : goal.returns-else-kind_at-eq-CLOSING_BRACE
returns-else-kind_at-eq-CLOSING_BRACE c = repeat_least _ _ _ _ _ c.number_of-value.ensures _ c.in-Ok.is c.if-n-ne0.false _ c.kind_at.ensures c.if-kind_at-eq-CLOSING_BRACE.false
