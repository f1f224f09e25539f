-- The tokens are looked for in the order of the definition (`from_number`), a law for each of four ways out: `{n}` and `{n,}` end, what has no comma
-- is refused, and a maximum goes on to its own.
use Rattle.structure.proofs.Leaves.{number_exact, number_open, number_least, number_most}
use Rattle.structure.proofs.Wants.{here_in}
use native.Mathlib.Omega.{arith}
use Rattle.token.proofs.Table.{sizes}
use Rattle.structure.proofs.inner.leaves.number_end.Goals as goal

pub overflow_add-i : goal.overflow_add-i
overflow_add-i c = let z = sizes _ _ c.requires.lent in omega arith

pub overflow_add-result : goal.overflow_add-result
overflow_add-result c = let z = sizes _ _ c.requires.lent in omega arith

pub returns-then-kind_at-eq-CLOSING_BRACE : goal.returns-then-kind_at-eq-CLOSING_BRACE
returns-then-kind_at-eq-CLOSING_BRACE c = number_exact _ _ _ c.kind_at.ensures c.if-kind_at-eq-CLOSING_BRACE.true

pub returns-in_default : goal.returns-in_default
returns-in_default c = number_open _ _ _ c.kind_at.ensures c.if-kind_at-eq-CLOSING_BRACE.false _ c.expect-comma.ensures c.in_default.is _ c.not_allowed.ensures

pub overflow_add-result-then-kind_at-eq-CLOSING_BRACE-2 : goal.overflow_add-result-then-kind_at-eq-CLOSING_BRACE-2
overflow_add-result-then-kind_at-eq-CLOSING_BRACE-2 c = let i = here_in _ _ 15 _ _ (omega arith) c.expect-comma.ensures c.in-Some.is in let z = sizes _ _ c.requires.lent in omega arith

pub returns-then-kind_at-eq-CLOSING_BRACE-2 : goal.returns-then-kind_at-eq-CLOSING_BRACE-2
returns-then-kind_at-eq-CLOSING_BRACE-2 c = number_least _ _ _ c.kind_at.ensures c.if-kind_at-eq-CLOSING_BRACE.false _ c.expect-comma.ensures _ c.in-Some.is _ c.kind_at-2.ensures c.if-kind_at-eq-CLOSING_BRACE-2.true

pub returns : goal.returns
returns c = number_most _ _ _ c.kind_at.ensures c.if-kind_at-eq-CLOSING_BRACE.false _ c.expect-comma.ensures _ c.in-Some.is _ c.kind_at-2.ensures c.if-kind_at-eq-CLOSING_BRACE-2.false _ c.most_end.ensures
