-- The three returns are the three shapes of `from_number`: `{n}` (`exact`), `{n,}` (`least`), `{n, m}` (`both`).
-- This postfix isn't refused, so that whatever isn't asked about is there: the comma, the second number and the last `}` (`close_in`).
use Rattle.build.proofs.Worths.{exact, least, close_in, both}
use Rattle.structure.proofs.Steps.{inside_is}
use native.Mathlib.Omega.{arith}
use Rattle.token.proofs.Table.{sizes}
use Rattle.build.proofs.inner.values.from_number.Goals as goal

pub number_at-n-requires : goal.number_at-n-requires
number_at-n-requires c =
    let inside = inside_is _ _ 20 (omega arith) c.requires.at_value in
    record {
      lent = c.requires.lent;
      at_in_bounds = inside;
    }

pub overflow_add-at : goal.overflow_add-at
overflow_add-at c =
    let inside = inside_is _ _ 20 (omega arith) c.requires.at_value in
    let few = (sizes _ _ c.requires.lent).1 in
    omega (arith, inside, few)

pub overflow_add-result : goal.overflow_add-result
overflow_add-result c =
    let inside = inside_is _ _ 20 (omega arith) c.requires.at_value in
    let few = (sizes _ _ c.requires.lent).1 in
    omega (arith, inside, few)

pub returns-then-kind_at-eq-CLOSING_BRACE : goal.returns-then-kind_at-eq-CLOSING_BRACE
returns-then-kind_at-eq-CLOSING_BRACE c = exact _ _ _ _ c.number_at-n.ensures c.kind_at.ensures c.if-kind_at-eq-CLOSING_BRACE.true

pub overflow_add-j : goal.overflow_add-j
overflow_add-j c =
    let inside = inside_is _ _ 20 (omega arith) c.requires.at_value in
    let few = (sizes _ _ c.requires.lent).1 in
    omega (arith, inside, few)

pub overflow_add-j-2 : goal.overflow_add-j-2
overflow_add-j-2 c =
    let inside = inside_is _ _ 20 (omega arith) c.requires.at_value in
    let few = (sizes _ _ c.requires.lent).1 in
    omega (arith, inside, few)

pub overflow_add-result-then-kind_at-eq-CLOSING_BRACE-2 : goal.overflow_add-result-then-kind_at-eq-CLOSING_BRACE-2
overflow_add-result-then-kind_at-eq-CLOSING_BRACE-2 c =
    let inside = inside_is _ _ 20 (omega arith) c.requires.at_value in
    let few = (sizes _ _ c.requires.lent).1 in
    omega (arith, inside, few)

pub returns-then-kind_at-eq-CLOSING_BRACE-2 : goal.returns-then-kind_at-eq-CLOSING_BRACE-2
returns-then-kind_at-eq-CLOSING_BRACE-2 c = least _ _ _ _ c.number_at-n.ensures c.kind_at.ensures c.if-kind_at-eq-CLOSING_BRACE.false c.requires.accepted _ c.kind_at-2.ensures c.if-kind_at-eq-CLOSING_BRACE-2.true

pub number_at-m-requires : goal.number_at-m-requires
number_at-m-requires c =
    let closes = close_in _ _ _ _ c.number_at-n.ensures c.kind_at.ensures c.if-kind_at-eq-CLOSING_BRACE.false c.requires.accepted _ c.kind_at-2.ensures c.if-kind_at-eq-CLOSING_BRACE-2.false in
    record {
      lent = c.requires.lent;
      at_in_bounds = omega (arith, closes);
    }

pub overflow_add-result-2 : goal.overflow_add-result-2
overflow_add-result-2 c =
    let inside = inside_is _ _ 20 (omega arith) c.requires.at_value in
    let few = (sizes _ _ c.requires.lent).1 in
    omega (arith, inside, few)

pub overflow_add-result-3 : goal.overflow_add-result-3
overflow_add-result-3 c =
    let inside = inside_is _ _ 20 (omega arith) c.requires.at_value in
    let few = (sizes _ _ c.requires.lent).1 in
    omega (arith, inside, few)

pub returns : goal.returns
returns c = both _ _ _ _ c.number_at-n.ensures c.kind_at.ensures c.if-kind_at-eq-CLOSING_BRACE.false c.requires.accepted _ c.kind_at-2.ensures c.if-kind_at-eq-CLOSING_BRACE-2.false _ c.number_at-m.ensures
