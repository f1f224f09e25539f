-- The tests are those of the definition, in its order: `(`, then PUSH, then `(` behind it, and each way out has its law of Checks. The level
-- that these laws take plays no part here. PUSH is a token, so that the next index fits.
use Rattle.structure.proofs.Checks.{bracket_group, bracket_nothing, push_in, bracket_push, bracket_unopened}
use Rattle.structure.specs.declared.Level.TheVariants.{Plain}
use native.Mathlib.Omega.{arith}
use Rattle.token.proofs.Table.{sizes}
use Rattle.structure.proofs.inner.checks.bracket_of.Goals as goal

pub returns-then-kind_at-eq-OPENING_PAREN : goal.returns-then-kind_at-eq-OPENING_PAREN
returns-then-kind_at-eq-OPENING_PAREN c = bracket_group Plain _ _ _ c.kind_at.ensures c.if-kind_at-eq-OPENING_PAREN.true

pub returns-then-not-spelled : goal.returns-then-not-spelled
returns-then-not-spelled c = bracket_nothing Plain _ _ _ c.kind_at.ensures c.if-kind_at-eq-OPENING_PAREN.false _ c.spelled.ensures c.if-not-spelled.true

pub overflow_add-i : goal.overflow_add-i
overflow_add-i c = let i = push_in Plain _ _ _ c.kind_at.ensures c.if-kind_at-eq-OPENING_PAREN.false _ c.spelled.ensures c.if-not-spelled.false in let z = sizes _ _ c.requires in omega arith

pub returns-then-kind_at-eq-OPENING_PAREN-2 : goal.returns-then-kind_at-eq-OPENING_PAREN-2
returns-then-kind_at-eq-OPENING_PAREN-2 c = bracket_push Plain _ _ _ c.kind_at.ensures c.if-kind_at-eq-OPENING_PAREN.false _ c.spelled.ensures c.if-not-spelled.false _ c.kind_at-2.ensures c.if-kind_at-eq-OPENING_PAREN-2.true

pub returns : goal.returns
returns c = bracket_unopened Plain _ _ _ c.kind_at.ensures c.if-kind_at-eq-OPENING_PAREN.false _ c.spelled.ensures c.if-not-spelled.false _ c.kind_at-2.ensures c.if-kind_at-eq-OPENING_PAREN-2.false
