-- The tokens are wanted in the order of the definition (`pushed`), and each way out has its law: no `(`, too deep, no string, no `)`, and all
-- there. Then it is one node with the bytes of its string.
use Rattle.structure.proofs.Leaves.{pushed_bare, pushed_deep, pushed_empty, pushed_unclosed, pushed_read}
use native.Mathlib.Omega.{arith}
use Rattle.token.proofs.Table.{sizes}
use Rattle.structure.proofs.inner.leaves.check_push_literal.Goals as goal

pub overflow_add-at : goal.overflow_add-at
overflow_add-at c = let z = sizes _ _ c.requires.lent in omega arith

pub overflow_add-at-in_default : goal.overflow_add-at-in_default
overflow_add-at-in_default c = let z = sizes _ _ c.requires.lent in omega arith

pub returns-in_default : goal.returns-in_default
returns-in_default c = pushed_bare _ _ _ _ c.expect-bracket.ensures c.in_default.is _ c.not_allowed.ensures

pub overflow_add-at-then-deep-ge-OPEN : goal.overflow_add-at-then-deep-ge-OPEN
overflow_add-at-then-deep-ge-OPEN c = let z = sizes _ _ c.requires.lent in omega arith

pub returns-then-deep-ge-OPEN : goal.returns-then-deep-ge-OPEN
returns-then-deep-ge-OPEN c = pushed_deep _ _ _ _ c.expect-bracket.ensures _ c.in-Some.is c.if-deep-ge-OPEN.true _ c.refused_at.ensures

pub returns-in_default-string : goal.returns-in_default-string
returns-in_default-string c = pushed_empty _ _ _ _ c.expect-bracket.ensures _ c.in-Some.is c.if-deep-ge-OPEN.false _ c.expect-string.ensures c.in_default-string.is _ c.not_allowed-in_default-string.ensures

pub returns-in_default-close : goal.returns-in_default-close
returns-in_default-close c = pushed_unclosed _ _ _ _ c.expect-bracket.ensures _ c.in-Some.is c.if-deep-ge-OPEN.false _ c.expect-string.ensures _ c.in-Some-string.is _ c.expect-close.ensures c.in_default-close.is _ c.not_allowed-in_default-close.ensures

pub returns : goal.returns
returns c = pushed_read _ _ _ _ c.expect-bracket.ensures _ c.in-Some.is c.if-deep-ge-OPEN.false _ c.expect-string.ensures _ c.in-Some-string.is _ c.expect-close.ensures _ c.in-Some-close.is _ c.string_bytes-bytes.ensures
