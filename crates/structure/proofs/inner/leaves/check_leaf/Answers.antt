-- By the kind of the token, a law of Leaves for each: a word is left to `check_word`, the two kinds of string are read, a character must begin
-- a range, and any other is refused. A kind above 0 says that there is a token, so that the next index fits.
use Rattle.structure.proofs.Leaves.{post_in, post_some, leaf_literal, leaf_range, leaf_none}
use native.Mathlib.Omega.{arith}
use Rattle.token.proofs.Table.{sizes}
use Rattle.structure.proofs.inner.leaves.check_leaf.Goals as goal
use Rattle.structure.proofs.inner.leaves.check_leaf.Goals.{in_default-via-then-k-lt23, in_default-via-else-k-lt23+else-k-lt25}

pub check_range-requires : goal.check_range-requires
check_range-requires c = record {
  lent = c.requires;
  at_in_bounds = post_in _ _ _ c.kind_at-k.ensures 25 (omega arith) c.in-25.is;
}

pub overflow_add-result : goal.overflow_add-result
overflow_add-result c =
    let i = post_some _ _ _ c.kind_at-k.ensures (omega (arith, c.in-23.if-k-lt23-own.false)) in
    let z = sizes _ _ c.requires in
    omega arith

pub returns-in-25 : goal.returns-in-25
returns-in-25 c = leaf_range _ _ _ _ c.kind_at-k.ensures c.in-25.is _ c.check_range.ensures

pub returns-in-23 : goal.returns-in-23
returns-in-23 c = leaf_literal _ _ _ _ c.kind_at-k.ensures (omega (arith, c.in-23.if-k-lt23-own.false)) (omega (arith, c.in-23.if-k-lt25-own.true)) _ c.string_bytes-bytes.ensures

pub returns-in_default : goal.returns-in_default
returns-in_default c =
    leaf_none _ _ _ _ c.kind_at-k.ensures c.in_default-1.rest.0.1
    (λ q. elim c.in_default.branch [ in_default-via-then-k-lt23 w ↦ omega arith | in_default-via-else-k-lt23+else-k-lt25 w ↦ omega arith ])
    (λ q. elim c.in_default.branch [ in_default-via-then-k-lt23 w ↦ omega arith | in_default-via-else-k-lt23+else-k-lt25 w ↦ omega arith ])
    c.in_default-1.rest.1 _ c.not_allowed.ensures
