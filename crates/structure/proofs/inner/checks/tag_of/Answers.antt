-- Four ways, each a law of Checks: no tag, a tag without `=`, a tag that is kept, one that is dropped. A token has a byte at least, so that
-- the bytes behind the `#` can be counted.
use Rattle.structure.proofs.Checks.{tag_none, tag_untied, tag_kept, tag_dropped}
use Rattle.structure.proofs.Leaves.{post_in}
use native.Mathlib.Omega.{arith}
use Rattle.token.proofs.Table.{sizes, spans}
use Rattle.structure.proofs.inner.checks.tag_of.Goals as goal

pub returns-then-kind_at-ne-TAG : goal.returns-then-kind_at-ne-TAG
returns-then-kind_at-ne-TAG c = tag_none _ _ _ _ c.kind_at.ensures c.if-kind_at-ne-TAG.true

pub overflow_add-at : goal.overflow_add-at
overflow_add-at c = let i = post_in _ _ _ c.kind_at.ensures 19 (omega arith) c.if-kind_at-ne-TAG.false in let z = sizes _ _ c.requires in omega arith

pub returns-in_default : goal.returns-in_default
returns-in_default c = tag_untied _ _ _ _ c.kind_at.ensures c.if-kind_at-ne-TAG.false _ c.expect-tie.ensures c.in_default.is

pub overflow_add-result : goal.overflow_add-result
overflow_add-result c = let i = post_in _ _ _ c.kind_at.ensures 19 (omega arith) c.if-kind_at-ne-TAG.false in let p = spans _ _ i in let z = c.requires.short in omega arith

pub overflow_sub-result : goal.overflow_sub-result
overflow_sub-result c = let i = post_in _ _ _ c.kind_at.ensures 19 (omega arith) c.if-kind_at-ne-TAG.false in let p = spans _ _ i in omega arith

pub returns-in-Tagged : goal.returns-in-Tagged
returns-in-Tagged c = tag_kept _ _ _ _ c.kind_at.ensures c.if-kind_at-ne-TAG.false _ c.expect-tie.ensures _ c.in-Some.is c.in-Tagged.is _ _ c.start_at-a.ensures c.end_at-z.ensures

pub returns-in-Plain : goal.returns-in-Plain
returns-in-Plain c = tag_dropped _ _ _ _ c.kind_at.ensures c.if-kind_at-ne-TAG.false _ c.expect-tie.ensures _ c.in-Some.is c.in-Plain.is
