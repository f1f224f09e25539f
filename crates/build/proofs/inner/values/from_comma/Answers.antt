-- This postfix isn't refused, so that the comma, a number and a `}` are there, and no index overflows (`most_in`).
-- With all three there, `from_comma` is the postfix that is returned (`most_is`).
use Rattle.build.proofs.Worths.{most_in, most_is}
use native.Mathlib.Omega.{arith}
use Rattle.token.proofs.Table.{sizes}
use Rattle.build.proofs.inner.values.from_comma.Goals as goal

pub overflow_add-j : goal.overflow_add-j
overflow_add-j c =
    let inside = most_in _ _ c.requires.accepted in
    let few = (sizes _ _ c.requires.lent).1 in
    omega (arith, inside, few)

pub number_at-n-requires : goal.number_at-n-requires
number_at-n-requires c =
    let inside = most_in _ _ c.requires.accepted in
    record {
      lent = c.requires.lent;
      at_in_bounds = omega (arith, inside);
    }

pub overflow_add-result : goal.overflow_add-result
overflow_add-result c =
    let inside = most_in _ _ c.requires.accepted in
    let few = (sizes _ _ c.requires.lent).1 in
    omega (arith, inside, few)

pub overflow_add-result-2 : goal.overflow_add-result-2
overflow_add-result-2 c =
    let inside = most_in _ _ c.requires.accepted in
    let few = (sizes _ _ c.requires.lent).1 in
    omega (arith, inside, few)

pub returns : goal.returns
returns c = most_is _ _ c.requires.accepted _ c.number_at-n.ensures
