-- By the kind of the token, a law of Leaves for each: `?`, `*` and `+` are one token, `{` goes on by whether a number follows, and any other is
-- no postfix. A kind above 0 says that there is a token, so that the next index fits.
use Rattle.structure.proofs.Leaves.{post_in, post_some, post_one, post_number, post_comma, post_none}
use Rattle.structure.proofs.Steps.{inside_is, sees}
use native.Mathlib.Omega.{arith}
use Rattle.token.proofs.Table.{sizes}
use Rattle.structure.proofs.inner.leaves.postfix_end.Goals as goal

pub overflow_add-at : goal.overflow_add-at
overflow_add-at c = let i = post_in _ _ _ c.kind_at-k.ensures 2 (omega arith) c.in-2.is in let z = sizes _ _ c.requires in omega arith

pub overflow_add-at-then-kind_at-eq-NUMBER : goal.overflow_add-at-then-kind_at-eq-NUMBER
overflow_add-at-then-kind_at-eq-NUMBER c =
    let i = post_in _ _ _ c.kind_at-k.ensures 2 (omega arith) c.in-2.is in
    let z = sizes _ _ c.requires in
    omega arith

pub number_end-requires : goal.number_end-requires
number_end-requires c = record {
  lent = c.requires;
  at_in_bounds = inside_is _ _ 20 (omega arith) (sees _ _ _ 20 c.kind_at.ensures c.if-kind_at-eq-NUMBER.true);
}

pub returns-then-kind_at-eq-NUMBER : goal.returns-then-kind_at-eq-NUMBER
returns-then-kind_at-eq-NUMBER c = post_number _ _ _ c.kind_at-k.ensures c.in-2.is _ c.kind_at.ensures c.if-kind_at-eq-NUMBER.true _ c.number_end.ensures

pub overflow_add-at-in-2 : goal.overflow_add-at-in-2
overflow_add-at-in-2 c =
    let i = post_in _ _ _ c.kind_at-k.ensures 2 (omega arith) c.in-2.is in
    let z = sizes _ _ c.requires in
    omega arith

pub overflow_add-result : goal.overflow_add-result
overflow_add-result c =
    let i = post_some _ _ _ c.kind_at-k.ensures (omega (arith, c.in-12.if-k-lt12-own.false)) in
    let z = sizes _ _ c.requires in
    omega arith

pub returns-else-kind_at-eq-NUMBER : goal.returns-else-kind_at-eq-NUMBER
returns-else-kind_at-eq-NUMBER c = post_comma _ _ _ c.kind_at-k.ensures c.in-2.is _ c.kind_at.ensures c.if-kind_at-eq-NUMBER.false _ c.comma_end.ensures

pub returns-in-12 : goal.returns-in-12
returns-in-12 c = post_one _ _ _ c.kind_at-k.ensures (omega (arith, c.in-12.if-k-lt12-own.false)) (omega (arith, c.in-12.if-k-lt15-own.true))

pub returns-in_default : goal.returns-in_default
returns-in_default c = let l = c.in_default.if-k-lt12-own.true in post_none _ _ _ c.kind_at-k.ensures (λ q. omega arith) (λ q. omega arith) (λ q. omega arith) c.in_default.in_default-own.rest.1

pub returns-in_default-2 : goal.returns-in_default-2
returns-in_default-2 c = let l = c.in_default.if-k-lt15-own.false in post_none _ _ _ c.kind_at-k.ensures (λ q. omega arith) (λ q. omega arith) (λ q. omega arith) c.in_default.in_default-own.rest.1
