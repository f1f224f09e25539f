-- A leaf was read here, and the tests come in the order of `leaf_at`: each return's is the one that was read, its tokens all there (`push_read` to `ranged_read`).
-- `room_same` and `built_same` carry room and result over to the function that is called; that a string's escapes are characters is what Scalars says.
use Rattle.build.proofs.Parts.{string_long, insens_long}
use native.Mathlib.Omega.{arith}
use mathlib.Core.Path.{sym, ◌∙◌}
use Rattle.structure.proofs.Steps.{sees, misses, inside_is, spelled_word}
use Rattle.build.proofs.Leaves.{push_read, peek_read, peek_word, word_read, string_read, insens_read, ranged_read, room_same, built_same}
use Rattle.token.proofs.Table.{sizes}
use Rattle.build.proofs.inner.leaves.put_leaf.Goals as goal

pub overflow_add-at : goal.overflow_add-at
overflow_add-at c =
    let w = (push_read _ _ _ c.requires.tree_room (sym c.spelled.ensures ∙ c.if-spelled.true)).1 in
    let n = sizes _ _ c.requires.lent in
    omega arith

pub overflow_add-at-then-spelled : goal.overflow_add-at-then-spelled
overflow_add-at-then-spelled c =
    let w = (push_read _ _ _ c.requires.tree_room (sym c.spelled.ensures ∙ c.if-spelled.true)).1 in
    let n = sizes _ _ c.requires.lent in
    omega arith

pub overflow_add-at-then-spelled-2 : goal.overflow_add-at-then-spelled-2
overflow_add-at-then-spelled-2 c =
    let w = (push_read _ _ _ c.requires.tree_room (sym c.spelled.ensures ∙ c.if-spelled.true)).1 in
    let n = sizes _ _ c.requires.lent in
    omega arith

pub overflow_add-at-then-spelled-3 : goal.overflow_add-at-then-spelled-3
overflow_add-at-then-spelled-3 c =
    let w = (push_read _ _ _ c.requires.tree_room (sym c.spelled.ensures ∙ c.if-spelled.true)).1 in
    let n = sizes _ _ c.requires.lent in
    omega arith

pub overflow_add-at-then-spelled-4 : goal.overflow_add-at-then-spelled-4
overflow_add-at-then-spelled-4 c =
    let w = (push_read _ _ _ c.requires.tree_room (sym c.spelled.ensures ∙ c.if-spelled.true)).1 in
    let n = sizes _ _ c.requires.lent in
    omega arith

pub overflow_add-at-then-spelled-5 : goal.overflow_add-at-then-spelled-5
overflow_add-at-then-spelled-5 c =
    let w = (push_read _ _ _ c.requires.tree_room (sym c.spelled.ensures ∙ c.if-spelled.true)).1 in
    let n = sizes _ _ c.requires.lent in
    omega arith

pub put_literal-requires : goal.put_literal-requires
put_literal-requires c =
    let pushed = push_read _ _ _ c.requires.tree_room (sym c.spelled.ensures ∙ c.if-spelled.true) in
    record {
      lent = c.requires.lent;
      at_bound = string_long _ _ pushed.0;
      at_value = c.requires.scalars.strings _ pushed.0;
      tree_room = room_same pushed.2 c.requires.tree_room;
    }

pub returns-then-spelled : goal.returns-then-spelled
returns-then-spelled c = built_same (push_read _ _ _ c.requires.tree_room (sym c.spelled.ensures ∙ c.if-spelled.true)).2 c.put_literal.ensures

pub overflow_add-at-then-spelled-2-2 : goal.overflow_add-at-then-spelled-2-2
overflow_add-at-then-spelled-2-2 c =
    let w = inside_is _ _ 18 (omega arith) (spelled_word _ _ _ (sym c.spelled-2.ensures ∙ c.if-spelled-2.true)) in
    let n = sizes _ _ c.requires.lent in
    omega arith

pub overflow_add-at-then-kind_at-eq-OPENING_BRACK : goal.overflow_add-at-then-kind_at-eq-OPENING_BRACK
overflow_add-at-then-kind_at-eq-OPENING_BRACK c =
    let w = inside_is _ _ 18 (omega arith) (spelled_word _ _ _ (sym c.spelled-2.ensures ∙ c.if-spelled-2.true)) in
    let n = sizes _ _ c.requires.lent in
    omega arith

pub put_slice-requires : goal.put_slice-requires
put_slice-requires c = record {
  lent = c.requires.lent;
  tree_room = room_same (peek_read _ _ _ c.requires.tree_room (sym c.spelled.ensures ∙ c.if-spelled.false) (sym c.spelled-2.ensures ∙ c.if-spelled-2.true) (sees _ _ _ 4 c.kind_at.ensures c.if-kind_at-eq-OPENING_BRACK.true)) c.requires.tree_room;
}

pub returns-then-kind_at-eq-OPENING_BRACK : goal.returns-then-kind_at-eq-OPENING_BRACK
returns-then-kind_at-eq-OPENING_BRACK c = built_same (peek_read _ _ _ c.requires.tree_room (sym c.spelled.ensures ∙ c.if-spelled.false) (sym c.spelled-2.ensures ∙ c.if-spelled-2.true) (sees _ _ _ 4 c.kind_at.ensures c.if-kind_at-eq-OPENING_BRACK.true)) c.put_slice.ensures

pub put_word-requires : goal.put_word-requires
put_word-requires c = record {
  lent = c.requires.lent;
  at_in_bounds = (peek_word _ _ _ c.requires.tree_room (sym c.spelled.ensures ∙ c.if-spelled.false) (sym c.spelled-2.ensures ∙ c.if-spelled-2.true) (misses _ _ _ 4 c.kind_at.ensures c.if-kind_at-eq-OPENING_BRACK.false)).0;
  tree_room = room_same (peek_word _ _ _ c.requires.tree_room (sym c.spelled.ensures ∙ c.if-spelled.false) (sym c.spelled-2.ensures ∙ c.if-spelled-2.true) (misses _ _ _ 4 c.kind_at.ensures c.if-kind_at-eq-OPENING_BRACK.false)).1 c.requires.tree_room;
}

pub returns-then-spelled-2 : goal.returns-then-spelled-2
returns-then-spelled-2 c = built_same (peek_word _ _ _ c.requires.tree_room (sym c.spelled.ensures ∙ c.if-spelled.false) (sym c.spelled-2.ensures ∙ c.if-spelled-2.true) (misses _ _ _ 4 c.kind_at.ensures c.if-kind_at-eq-OPENING_BRACK.false)).1 c.put_word.ensures

pub put_word-requires-then-kind-eq-WORD : goal.put_word-requires-then-kind-eq-WORD
put_word-requires-then-kind-eq-WORD c = record {
  lent = c.requires.lent;
  at_in_bounds = (word_read _ _ _ c.requires.tree_room (sym c.spelled.ensures ∙ c.if-spelled.false) (sym c.spelled-2.ensures ∙ c.if-spelled-2.false) (sees _ _ _ 18 c.kind_at-kind.ensures c.if-kind-eq-WORD.true)).0;
  tree_room = room_same (word_read _ _ _ c.requires.tree_room (sym c.spelled.ensures ∙ c.if-spelled.false) (sym c.spelled-2.ensures ∙ c.if-spelled-2.false) (sees _ _ _ 18 c.kind_at-kind.ensures c.if-kind-eq-WORD.true)).1 c.requires.tree_room;
}

pub returns-then-kind-eq-WORD : goal.returns-then-kind-eq-WORD
returns-then-kind-eq-WORD c = built_same (word_read _ _ _ c.requires.tree_room (sym c.spelled.ensures ∙ c.if-spelled.false) (sym c.spelled-2.ensures ∙ c.if-spelled-2.false) (sees _ _ _ 18 c.kind_at-kind.ensures c.if-kind-eq-WORD.true)).1 c.put_word-then-kind-eq-WORD.ensures

pub overflow_add-at-then-kind-eq-STRING : goal.overflow_add-at-then-kind-eq-STRING
overflow_add-at-then-kind-eq-STRING c =
    let w = (string_read _ _ _ c.requires.tree_room (sym c.spelled.ensures ∙ c.if-spelled.false) (sym c.spelled-2.ensures ∙ c.if-spelled-2.false) (misses _ _ _ 18 c.kind_at-kind.ensures c.if-kind-eq-WORD.false) (sees _ _ _ 23 c.kind_at-kind.ensures c.if-kind-eq-STRING.true)).0 in
    let n = sizes _ _ c.requires.lent in
    omega arith

pub put_literal-requires-then-kind-eq-STRING : goal.put_literal-requires-then-kind-eq-STRING
put_literal-requires-then-kind-eq-STRING c =
    let quoted = sees _ _ _ 23 c.kind_at-kind.ensures c.if-kind-eq-STRING.true in
    let not-push = sym c.spelled.ensures ∙ c.if-spelled.false in
    let not-peek = sym c.spelled-2.ensures ∙ c.if-spelled-2.false in
    let not-word = misses _ _ _ 18 c.kind_at-kind.ensures c.if-kind-eq-WORD.false in
    let string = string_read _ _ _ c.requires.tree_room not-push not-peek not-word quoted in
    record {
      lent = c.requires.lent;
      at_bound = string_long _ _ quoted;
      at_value = c.requires.scalars.strings _ quoted;
      tree_room = room_same string.1 c.requires.tree_room;
    }

pub returns-then-kind-eq-STRING : goal.returns-then-kind-eq-STRING
returns-then-kind-eq-STRING c = built_same (string_read _ _ _ c.requires.tree_room (sym c.spelled.ensures ∙ c.if-spelled.false) (sym c.spelled-2.ensures ∙ c.if-spelled-2.false) (misses _ _ _ 18 c.kind_at-kind.ensures c.if-kind-eq-WORD.false) (sees _ _ _ 23 c.kind_at-kind.ensures c.if-kind-eq-STRING.true)).1 c.put_literal-then-kind-eq-STRING.ensures

pub overflow_add-at-then-kind-eq-INSENSITIVE_STRING : goal.overflow_add-at-then-kind-eq-INSENSITIVE_STRING
overflow_add-at-then-kind-eq-INSENSITIVE_STRING c =
    let w = (insens_read _ _ _ c.requires.tree_room (sym c.spelled.ensures ∙ c.if-spelled.false) (sym c.spelled-2.ensures ∙ c.if-spelled-2.false) (misses _ _ _ 18 c.kind_at-kind.ensures c.if-kind-eq-WORD.false) (misses _ _ _ 23 c.kind_at-kind.ensures c.if-kind-eq-STRING.false) (sees _ _ _ 24 c.kind_at-kind.ensures c.if-kind-eq-INSENSITIVE_STRING.true)).0 in
    let n = sizes _ _ c.requires.lent in
    omega arith

pub put_literal-requires-then-kind-eq-INSENSITIVE_STRING : goal.put_literal-requires-then-kind-eq-INSENSITIVE_STRING
put_literal-requires-then-kind-eq-INSENSITIVE_STRING c =
    let insens = sees _ _ _ 24 c.kind_at-kind.ensures c.if-kind-eq-INSENSITIVE_STRING.true in
    let not-push = sym c.spelled.ensures ∙ c.if-spelled.false in
    let not-peek = sym c.spelled-2.ensures ∙ c.if-spelled-2.false in
    let not-word = misses _ _ _ 18 c.kind_at-kind.ensures c.if-kind-eq-WORD.false in
    let not-quoted = misses _ _ _ 23 c.kind_at-kind.ensures c.if-kind-eq-STRING.false in
    let other = insens_read _ _ _ c.requires.tree_room not-push not-peek not-word not-quoted insens in
    record {
      lent = c.requires.lent;
      at_bound = insens_long _ _ insens;
      at_value = c.requires.scalars.insens _ insens;
      tree_room = room_same other.1 c.requires.tree_room;
    }

pub returns-then-kind-eq-INSENSITIVE_STRING : goal.returns-then-kind-eq-INSENSITIVE_STRING
returns-then-kind-eq-INSENSITIVE_STRING c = built_same (insens_read _ _ _ c.requires.tree_room (sym c.spelled.ensures ∙ c.if-spelled.false) (sym c.spelled-2.ensures ∙ c.if-spelled-2.false) (misses _ _ _ 18 c.kind_at-kind.ensures c.if-kind-eq-WORD.false) (misses _ _ _ 23 c.kind_at-kind.ensures c.if-kind-eq-STRING.false) (sees _ _ _ 24 c.kind_at-kind.ensures c.if-kind-eq-INSENSITIVE_STRING.true)).1 c.put_literal-then-kind-eq-INSENSITIVE_STRING.ensures

pub put_range-requires : goal.put_range-requires
put_range-requires c = record {
  lent = c.requires.lent;
  at_value = (ranged_read _ _ _ c.requires.tree_room (sym c.spelled.ensures ∙ c.if-spelled.false) (sym c.spelled-2.ensures ∙ c.if-spelled-2.false) (misses _ _ _ 18 c.kind_at-kind.ensures c.if-kind-eq-WORD.false) (misses _ _ _ 23 c.kind_at-kind.ensures c.if-kind-eq-STRING.false) (misses _ _ _ 24 c.kind_at-kind.ensures c.if-kind-eq-INSENSITIVE_STRING.false)).0;
  tree_room = room_same (ranged_read _ _ _ c.requires.tree_room (sym c.spelled.ensures ∙ c.if-spelled.false) (sym c.spelled-2.ensures ∙ c.if-spelled-2.false) (misses _ _ _ 18 c.kind_at-kind.ensures c.if-kind-eq-WORD.false) (misses _ _ _ 23 c.kind_at-kind.ensures c.if-kind-eq-STRING.false) (misses _ _ _ 24 c.kind_at-kind.ensures c.if-kind-eq-INSENSITIVE_STRING.false)).1 c.requires.tree_room;
}

pub returns : goal.returns
returns c = built_same (ranged_read _ _ _ c.requires.tree_room (sym c.spelled.ensures ∙ c.if-spelled.false) (sym c.spelled-2.ensures ∙ c.if-spelled-2.false) (misses _ _ _ 18 c.kind_at-kind.ensures c.if-kind-eq-WORD.false) (misses _ _ _ 23 c.kind_at-kind.ensures c.if-kind-eq-STRING.false) (misses _ _ _ 24 c.kind_at-kind.ensures c.if-kind-eq-INSENSITIVE_STRING.false)).1 c.put_range.ensures
