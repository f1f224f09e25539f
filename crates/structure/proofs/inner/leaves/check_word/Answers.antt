-- By the tests of the definition: PUSH_LITERAL, or PEEK before `[`. Any other word is a name, since it isn't PEEK (`no_peek`) or no `[` is
-- behind it (`no_slice`). The word is a token, so that the next indexes fit.
use Rattle.structure.proofs.Leaves.{word_pushes, word_slices, no_slice, no_peek, word_named}
use Rattle.structure.proofs.Steps.{inside_is, sees}
use native.Mathlib.Omega.{arith}
use mathlib.Core.Path.{refl}
use Rattle.token.proofs.Table.{sizes}
use Rattle.structure.proofs.inner.leaves.check_word.Goals as goal
use Rattle.structure.proofs.inner.leaves.check_word.Goals.{else-spelled-2-via-then-spelled-2+else-kind_at-eq-OPENING_BRACK, else-spelled-2-via-else-spelled-2}

pub check_push_literal-requires : goal.check_push_literal-requires
check_push_literal-requires c = record {
  lent = c.requires.lent;
  at_in_bounds = inside_is _ _ 18 (omega arith) (sees _ _ _ 18 refl c.requires.at_value);
}

pub returns-then-spelled : goal.returns-then-spelled
returns-then-spelled c = word_pushes _ _ _ _ c.spelled.ensures c.if-spelled.true _ c.check_push_literal.ensures

pub overflow_add-at : goal.overflow_add-at
overflow_add-at c = let i = inside_is _ _ 18 (omega arith) (sees _ _ _ 18 refl c.requires.at_value) in let z = sizes _ _ c.requires.lent in omega arith

pub overflow_add-at-then-kind_at-eq-OPENING_BRACK : goal.overflow_add-at-then-kind_at-eq-OPENING_BRACK
overflow_add-at-then-kind_at-eq-OPENING_BRACK c = let i = inside_is _ _ 18 (omega arith) (sees _ _ _ 18 refl c.requires.at_value) in let z = sizes _ _ c.requires.lent in omega arith

pub returns-then-kind_at-eq-OPENING_BRACK : goal.returns-then-kind_at-eq-OPENING_BRACK
returns-then-kind_at-eq-OPENING_BRACK c = word_slices _ _ _ _ c.spelled.ensures c.if-spelled.false _ c.spelled-2.ensures c.if-spelled-2.true _ c.kind_at.ensures c.if-kind_at-eq-OPENING_BRACK.true _ c.check_slice.ensures

pub overflow_add-result : goal.overflow_add-result
overflow_add-result c = let i = inside_is _ _ 18 (omega arith) (sees _ _ _ 18 refl c.requires.at_value) in let z = sizes _ _ c.requires.lent in omega arith

pub returns : goal.returns
returns c =
    word_named _ _ _ _ c.spelled.ensures c.if-spelled.false _ c.spelled-2.ensures
    (elim c.else-spelled-2.branch [
      | else-spelled-2-via-then-spelled-2+else-kind_at-eq-OPENING_BRACK w ↦ no_slice c.args.deep _ _ _ c.spelled.ensures c.if-spelled.false _ c.spelled-2.ensures _ w.kind_at.ensures w.if-kind_at-eq-OPENING_BRACK.false
      | else-spelled-2-via-else-spelled-2 w ↦ no_peek c.args.deep _ _ _ c.spelled.ensures c.if-spelled.false _ c.spelled-2.ensures w.if-spelled-2.false
    ])
    c.requires.at_value _ c.word_bytes-bytes.ensures
