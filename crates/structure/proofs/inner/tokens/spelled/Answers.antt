-- Three tests: the kind, the length, the bytes. Where word and spelling have the same length, whether the text from the word's start on begins
-- so is whether the word does (`spells_by`).
use native.Mathlib.Omega.{arith}
use Rattle.token.proofs.Table.{low}
use Rattle.structure.proofs.Bytes.{spells_other, spells_longer, spells_by}
use Rattle.structure.proofs.inner.tokens.spelled.Goals as goal

pub returns-then-kind_at-ne-WORD : goal.returns-then-kind_at-ne-WORD
returns-then-kind_at-ne-WORD c = spells_other _ _ _ _ c.kind_at.ensures c.if-kind_at-ne-WORD.true

pub overflow_sub-z : goal.overflow_sub-z
overflow_sub-z c = let l = low c.args.text.now c.args.at in omega arith

pub returns-then-z-a : goal.returns-then-z-a
returns-then-z-a c = spells_longer _ _ _ _ c.kind_at.ensures c.if-kind_at-ne-WORD.false _ _ c.start_at-a.ensures c.end_at-z.ensures c.if-z-a.true

pub begins_at-requires : goal.begins_at-requires
begins_at-requires c = let l = low c.args.text.now c.args.at in omega arith

pub returns : goal.returns
returns c = spells_by _ _ _ _ c.kind_at.ensures c.if-kind_at-ne-WORD.false _ _ c.start_at-a.ensures c.end_at-z.ensures c.if-z-a.false _ c.begins_at.ensures
