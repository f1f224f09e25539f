-- What is no word is no name. A word's slice lies inside the text (`spans`) and has the word's bytes, so that whether it begins with PUSH is
-- what the definition asks (`name_by`).
use Rattle.structure.proofs.Rules.{name_other, name_by}
use Rattle.structure.proofs.Leaves.{post_in}
use native.Mathlib.Omega.{arith}
use Rattle.token.proofs.Table.{spans}
use Rattle.structure.proofs.inner.rules.is_name.Goals as goal

pub returns-then-kind_at-ne-WORD : goal.returns-then-kind_at-ne-WORD
returns-then-kind_at-ne-WORD c = name_other _ _ _ c.kind_at.ensures c.if-kind_at-ne-WORD.true

pub slice_bounds-begins_at-count : goal.slice_bounds-begins_at-count
slice_bounds-begins_at-count c = let i = post_in _ _ _ c.kind_at.ensures 18 (omega arith) c.if-kind_at-ne-WORD.false in let p = spans _ _ i in omega arith

pub slice_bounds-begins_at-start : goal.slice_bounds-begins_at-start
slice_bounds-begins_at-start c = let i = post_in _ _ _ c.kind_at.ensures 18 (omega arith) c.if-kind_at-ne-WORD.false in let p = spans _ _ i in omega arith

pub slice_bounds-begins_at-end-2 : goal.slice_bounds-begins_at-end-2
slice_bounds-begins_at-end-2 c = let i = post_in _ _ _ c.kind_at.ensures 18 (omega arith) c.if-kind_at-ne-WORD.false in let p = spans _ _ i in omega arith

pub returns : goal.returns
returns c = name_by _ _ _ c.kind_at.ensures c.if-kind_at-ne-WORD.false _ _ c.start_at-a.ensures c.end_at-z.ensures _ c.begins_at.ensures
