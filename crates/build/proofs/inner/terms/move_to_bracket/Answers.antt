-- Where a bracket opened the node, its start is moved there (`opened_yes`); otherwise nothing is to be done (`opened_no`).
-- A start lies in a text of 65536 bytes at most, so that it fits 32 bits.
use native.Mathlib.Omega.{arith}
use Rattle.build.proofs.Terms.{opened_yes, opened_no}
use Rattle.token.proofs.Table.{low}
use Rattle.build.proofs.inner.terms.move_to_bracket.Goals as goal

pub move_start-requires : goal.move_start-requires
move_start-requires c =
    let l = low c.args.text.now c.args.at in
    let h = c.requires.lent.short in
    (c.requires.used_in_bounds.0, c.requires.used_in_bounds.1, omega arith)

pub returns-then-kind_at-eq-OPENING_PAREN : goal.returns-then-kind_at-eq-OPENING_PAREN
returns-then-kind_at-eq-OPENING_PAREN c = opened_yes _ _ _ _ _ _ _ c.kind_at.ensures c.if-kind_at-eq-OPENING_PAREN.true c.start_at-a.ensures c.move_start.ensures

pub returns-else-kind_at-eq-OPENING_PAREN : goal.returns-else-kind_at-eq-OPENING_PAREN
returns-else-kind_at-eq-OPENING_PAREN c = opened_no _ _ _ _ _ c.kind_at.ensures c.if-kind_at-eq-OPENING_PAREN.false
