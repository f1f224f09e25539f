-- A comma, then a number, then what that is worth, a law of Faults for each (`no_comma`, `no_number`, `most_is`). The number is a token, since it has a kind.
use Rattle.std.specs.Prelude.{Ok}
use native.Mathlib.Omega.{arith}
use Rattle.token.proofs.Table.{sizes}
use Rattle.structure.proofs.Steps.{sees, inside_is}
use Rattle.structure.proofs.Faults.{no_comma, no_number, most_is, most_some}
use Rattle.structure.proofs.inner.values.exceeds.Goals as goal
use Rattle.structure.proofs.inner.values.exceeds.Goals.{then-kind_at-ne-COMMA-via-then-kind_at-ne-COMMA, then-kind_at-ne-COMMA-via-else-kind_at-ne-COMMA+then-kind_at-ne-NUMBER}

pub overflow_add-at : goal.overflow_add-at
overflow_add-at c = let z = sizes _ _ c.requires.lent in omega arith

pub overflow_add-at-else-kind_at-ne-COMMA : goal.overflow_add-at-else-kind_at-ne-COMMA
overflow_add-at-else-kind_at-ne-COMMA c = let z = sizes _ _ c.requires.lent in omega arith

pub returns-then-kind_at-ne-COMMA : goal.returns-then-kind_at-ne-COMMA
returns-then-kind_at-ne-COMMA c =
    elim c.then-kind_at-ne-COMMA.branch [
      | then-kind_at-ne-COMMA-via-then-kind_at-ne-COMMA w ↦ no_comma _ _ _ _ c.kind_at.ensures w.if-kind_at-ne-COMMA.true
      | then-kind_at-ne-COMMA-via-else-kind_at-ne-COMMA+then-kind_at-ne-NUMBER w ↦ no_number _ _ _ _ c.kind_at.ensures w.if-kind_at-ne-COMMA.false _ w.kind_at-else-kind_at-ne-COMMA.ensures w.if-kind_at-ne-NUMBER.true
    ]

pub overflow_add-at-2 : goal.overflow_add-at-2
overflow_add-at-2 c = let z = sizes _ _ c.requires.lent in omega arith

pub number_of-most-requires-clause-at_in_bounds : goal.number_of-most-requires-clause-at_in_bounds
number_of-most-requires-clause-at_in_bounds c = inside_is _ _ 20 (omega arith) (sees _ _ _ 20 c.kind_at-else-kind_at-ne-COMMA.ensures c.if-kind_at-ne-NUMBER.false)

pub returns-then-m-ne0 : goal.returns-then-m-ne0
returns-then-m-ne0 c = most_is _ _ _ _ c.kind_at.ensures c.if-kind_at-ne-COMMA.false _ c.kind_at-else-kind_at-ne-COMMA.ensures c.if-kind_at-ne-NUMBER.false _ c.number_of-most.ensures _ (Ok _) c.in-Ok.is (most_some _ _ c.if-m-ne0.true)
