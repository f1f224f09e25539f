-- The tokens are wanted in the order of the definition (`ranged`), and each way out has its law: no `..`, no second character, and both there.
-- Then it is one node without bytes.
use Rattle.structure.proofs.Leaves.{range_undotted, range_open, range_read}
use native.Mathlib.Omega.{arith}
use Rattle.token.proofs.Table.{sizes}
use Rattle.structure.proofs.inner.leaves.check_range.Goals as goal

pub overflow_add-at : goal.overflow_add-at
overflow_add-at c = let z = sizes _ _ c.requires.lent in omega arith

pub overflow_add-at-in_default : goal.overflow_add-at-in_default
overflow_add-at-in_default c = let z = sizes _ _ c.requires.lent in omega arith

pub returns-in_default : goal.returns-in_default
returns-in_default c = range_undotted _ _ _ c.expect-dots.ensures c.in_default.is _ c.not_allowed.ensures

pub returns-in_default-last : goal.returns-in_default-last
returns-in_default-last c = range_open _ _ _ c.expect-dots.ensures _ c.in-Some.is _ c.expect-last.ensures c.in_default-last.is _ c.not_allowed-in_default-last.ensures

pub returns : goal.returns
returns c = range_read _ _ _ c.expect-dots.ensures _ c.in-Some.is _ c.expect-last.ensures _ c.in-Some-last.is
