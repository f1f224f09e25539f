-- A token that opens a postfix is one of few (`seen_low`), so that the next index fits. The rest is a law of Worths for each kind.
use native.Mathlib.Omega.{arith}
use Rattle.build.proofs.Worths.{seen_low}
use Rattle.build.proofs.inner.values.suffix_at.Goals as goal

pub overflow_add-result : goal.overflow_add-result
overflow_add-result c = omega (arith, seen_low _ _ _ _ c.requires.lent c.kind_at.ensures (let k = c.in-12.is in omega arith))

pub overflow_add-result-in-13 : goal.overflow_add-result-in-13
overflow_add-result-in-13 c = omega (arith, seen_low _ _ _ _ c.requires.lent c.kind_at.ensures (let k = c.in-13.is in omega arith))

pub overflow_add-result-in-14 : goal.overflow_add-result-in-14
overflow_add-result-in-14 c = omega (arith, seen_low _ _ _ _ c.requires.lent c.kind_at.ensures (let k = c.in-14.is in omega arith))

pub overflow_add-at : goal.overflow_add-at
overflow_add-at c = omega (arith, seen_low _ _ _ _ c.requires.lent c.kind_at.ensures (let k = c.in-2.is in omega arith))

pub overflow_add-at-then-kind_at-eq-NUMBER : goal.overflow_add-at-then-kind_at-eq-NUMBER
overflow_add-at-then-kind_at-eq-NUMBER c = omega (arith, seen_low _ _ _ _ c.requires.lent c.kind_at.ensures (let k = c.in-2.is in omega arith))

pub overflow_add-at-in-2 : goal.overflow_add-at-in-2
overflow_add-at-in-2 c = omega (arith, seen_low _ _ _ _ c.requires.lent c.kind_at.ensures (let k = c.in-2.is in omega arith))
