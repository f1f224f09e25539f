use Prim.Native.Nat.{ℕ}
use native.Mathlib.Omega.{arith}
use mathlib.Core.Bool.{Bool, true}
use mathlib.Core.List.{List}
use mathlib.Core.Path.{◌≡◌, sym, ◌∙◌}
use Rattle.text.specs.Splice.{Wrote}
use Rattle.text.specs.Words.{push}
use Rattle.token.specs.Table.{Lent, kind}
use Rattle.token.proofs.Table.{sizes}
use Rattle.structure.specs.declared.Level.{Level}
use Rattle.structure.specs.Answers.{predicates_end}
use Rattle.structure.specs.Tokens.{spells}
use Rattle.structure.specs.Structure.{Run, term, node}
use Rattle.structure.proofs.Steps.{sees, misses}
use Rattle.build.specs.Build.{TreeRoom, tag_text, past_tag}
use Rattle.build.proofs.Leaves.{room_same, built_same}
use Rattle.build.proofs.Chains.{first_room, build_start, choice_room, build_done, bar_inside, bar_falls, bar_room, bar_more, seq_inside, seq_falls, seq_room, seq_fits, seq_over, seq_more}
use Rattle.build.proofs.Nodes.{Grouped, Pushed, group_in, group_falls, group_deep, group_room, group_last, group_within, group_built, push_in, push_falls, push_room, push_within, push_over, push_built, leaf_read}
use Rattle.build.proofs.Finishes.{Headed, tag_room, node_falls, node_room, posts_room, open_room, signs_room, tie_room, term_built}
use Rattle.build.proofs.inner.descent.+consume_expr_consume_node_unaries.Goals as goal

-- ---- what is known of a node and a term, from what was asked and the calls up to there

-- `(` begins the node
group : {level : Level} {s ts : List ℕ} {o at used free : ℕ} {table store : List ℕ} {k : ℕ} → Lent s ts → TreeRoom (Run level s (node o at)) table store used free
    → k ≡ kind s at → k ≡ 6 → Grouped level s o at used free table store
group v r e q = record { room = r; short = v.short; opens = sees _ _ _ 6 e q }

-- no bracket, and PUSH begins the node
pushed : {level : Level} {s ts : List ℕ} {o at used free : ℕ} {table store : List ℕ} {k : ℕ} {b : Bool} → Lent s ts → TreeRoom (Run level s (node o at)) table store used free
    → k ≡ kind s at → (k ≡ 6 → ⊥) → b ≡ spells push s at → b ≡ true → Pushed level s o at used free table store
pushed v r e n p q = record { room = r; short = v.short; bare = misses _ _ _ 6 e n; pushes = sym p ∙ q }

-- the term's tag is stored, its predicates are passed
headed : {level : Level} {s ts : List ℕ} {o at used free : ℕ} {table store store₁ : List ℕ} {mid from first : ℕ} → Lent s ts → TreeRoom (Run level s (term o at)) table store used free
    → from ≡ past_tag s at → Wrote store free (tag_text level s at) store₁ mid → first ≡ predicates_end s from
    → Headed level s o at used free table store store₁ mid from first
headed v r p w e = record { room = r; short = v.short; tag = w; past = p; signs = e }

-- ---- `consume_expr`

pub consume_expr-unaries-first-requires : goal.consume_expr-unaries-first-requires
consume_expr-unaries-first-requires t c = (omega arith, (c.requires.lent, (c.requires.scalars, first_room _ _ _ _ c.requires.tree_room)))

pub consume_expr-loop-z-init : goal.consume_expr-loop-z-init
consume_expr-loop-z-init t c = λ table store g d. build_start _ _ _ _ g d

-- a `~`: the last sequence goes on

pub consume_expr-overflow_add-i : goal.consume_expr-overflow_add-i
consume_expr-overflow_add-i t c =
    let kept = c.loop-z.invariant _ _ c.requires.tree_room c.unaries-first.ensures in
    let tilde = sees _ _ _ 10 c.kind_at-k.ensures c.if-k-eq-TILDE.true in
    omega (arith, seq_inside kept tilde, (sizes _ _ c.requires.lent).1)

pub consume_expr-unaries-right-requires : goal.consume_expr-unaries-right-requires
consume_expr-unaries-right-requires t c =
    let kept = c.loop-z.invariant _ _ c.requires.tree_room c.unaries-first.ensures in
    let tilde = sees _ _ _ 10 c.kind_at-k.ensures c.if-k-eq-TILDE.true in
    (omega (arith, seq_falls kept tilde), (c.requires.lent, (c.requires.scalars, seq_room kept tilde)))

pub consume_expr-overflow_sub-u : goal.consume_expr-overflow_sub-u
consume_expr-overflow_sub-u t c =
    let kept = c.loop-z.invariant _ _ c.requires.tree_room c.unaries-first.ensures in
    let tilde = sees _ _ _ 10 c.kind_at-k.ensures c.if-k-eq-TILDE.true in
    omega (arith, (seq_fits kept tilde c.unaries-right.ensures).1)

pub consume_expr-put_join-requires : goal.consume_expr-put_join-requires
consume_expr-put_join-requires t c =
    let kept = c.loop-z.invariant _ _ c.requires.tree_room c.unaries-first.ensures in
    let tilde = sees _ _ _ 10 c.kind_at-k.ensures c.if-k-eq-TILDE.true in
    let h = seq_over kept tilde c.unaries-right.ensures in
    record { over = h.0; left_le_most = h.1 }

pub consume_expr-overflow_add-u : goal.consume_expr-overflow_add-u
consume_expr-overflow_add-u t c =
    let kept = c.loop-z.invariant _ _ c.requires.tree_room c.unaries-first.ensures in
    let tilde = sees _ _ _ 10 c.kind_at-k.ensures c.if-k-eq-TILDE.true in
    omega (arith, (seq_fits kept tilde c.unaries-right.ensures).2)

pub consume_expr-loop-z-smaller-then-k-eq-TILDE : goal.consume_expr-loop-z-smaller-then-k-eq-TILDE
consume_expr-loop-z-smaller-then-k-eq-TILDE t c =
    let kept = c.loop-z.invariant _ _ c.requires.tree_room c.unaries-first.ensures in
    let tilde = sees _ _ _ 10 c.kind_at-k.ensures c.if-k-eq-TILDE.true in
    let more = seq_more kept tilde c.unaries-right.ensures c.put_join.ensures in
    omega (arith, more.0, more.1.within)

pub consume_expr-loop-z-preserved-then-k-eq-TILDE : goal.consume_expr-loop-z-preserved-then-k-eq-TILDE
consume_expr-loop-z-preserved-then-k-eq-TILDE t c =
    let tilde = sees _ _ _ 10 c.kind_at-k.ensures c.if-k-eq-TILDE.true in
    λ table store g d. (seq_more (c.loop-z.invariant table store g d) tilde c.unaries-right.ensures c.put_join.ensures).1

-- no `~`: the choice is closed, and a `|` goes on or the expression ends

pub consume_expr-put_choice-u-requires : goal.consume_expr-put_choice-u-requires
consume_expr-put_choice-u-requires t c = choice_room (c.loop-z.invariant _ _ c.requires.tree_room c.unaries-first.ensures)

pub consume_expr-returns-then-k-ne-BAR : goal.consume_expr-returns-then-k-ne-BAR
consume_expr-returns-then-k-ne-BAR t c =
    let kept = c.loop-z.invariant _ _ c.requires.tree_room c.unaries-first.ensures in
    let no_tilde = misses _ _ _ 10 c.kind_at-k.ensures c.if-k-eq-TILDE.false in
    let no_bar = misses _ _ _ 11 c.kind_at-k.ensures c.if-k-ne-BAR.true in
    build_done kept (c.put_choice-u.ensures.answer, c.put_choice-u.ensures.table) no_tilde no_bar

pub consume_expr-overflow_sub-left : goal.consume_expr-overflow_sub-left
consume_expr-overflow_sub-left t c =
    let kept = c.loop-z.invariant _ _ c.requires.tree_room c.unaries-first.ensures in
    let no_tilde = misses _ _ _ 10 c.kind_at-k.ensures c.if-k-eq-TILDE.false in
    let bar = sees _ _ _ 11 c.kind_at-k.ensures c.if-k-ne-BAR.false in
    omega (arith, (bar_inside kept (c.put_choice-u.ensures.answer, c.put_choice-u.ensures.table) no_tilde bar).1)

pub consume_expr-overflow_add-i-else-k-eq-TILDE : goal.consume_expr-overflow_add-i-else-k-eq-TILDE
consume_expr-overflow_add-i-else-k-eq-TILDE t c =
    let kept = c.loop-z.invariant _ _ c.requires.tree_room c.unaries-first.ensures in
    let no_tilde = misses _ _ _ 10 c.kind_at-k.ensures c.if-k-eq-TILDE.false in
    let bar = sees _ _ _ 11 c.kind_at-k.ensures c.if-k-ne-BAR.false in
    omega (arith, (bar_inside kept (c.put_choice-u.ensures.answer, c.put_choice-u.ensures.table) no_tilde bar).0, (sizes _ _ c.requires.lent).1)

pub consume_expr-unaries-right-requires-else-k-eq-TILDE : goal.consume_expr-unaries-right-requires-else-k-eq-TILDE
consume_expr-unaries-right-requires-else-k-eq-TILDE t c =
    let kept = c.loop-z.invariant _ _ c.requires.tree_room c.unaries-first.ensures in
    let no_tilde = misses _ _ _ 10 c.kind_at-k.ensures c.if-k-eq-TILDE.false in
    let bar = sees _ _ _ 11 c.kind_at-k.ensures c.if-k-ne-BAR.false in
    let falls = bar_falls kept (c.put_choice-u.ensures.answer, c.put_choice-u.ensures.table) no_tilde bar in
    (omega (arith, falls), (c.requires.lent, (c.requires.scalars, bar_room kept (c.put_choice-u.ensures.answer, c.put_choice-u.ensures.table) no_tilde bar)))

pub consume_expr-loop-z-smaller : goal.consume_expr-loop-z-smaller
consume_expr-loop-z-smaller t c =
    let kept = c.loop-z.invariant _ _ c.requires.tree_room c.unaries-first.ensures in
    let no_tilde = misses _ _ _ 10 c.kind_at-k.ensures c.if-k-eq-TILDE.false in
    let bar = sees _ _ _ 11 c.kind_at-k.ensures c.if-k-ne-BAR.false in
    let again = bar_more kept (c.put_choice-u.ensures.answer, c.put_choice-u.ensures.table) no_tilde bar c.unaries-right-else-k-eq-TILDE.ensures in
    omega (arith, again.0, again.1.within)

pub consume_expr-loop-z-preserved : goal.consume_expr-loop-z-preserved
consume_expr-loop-z-preserved t c =
    let no_tilde = misses _ _ _ 10 c.kind_at-k.ensures c.if-k-eq-TILDE.false in
    let bar = sees _ _ _ 11 c.kind_at-k.ensures c.if-k-ne-BAR.false in
    λ table store g d. (bar_more (c.loop-z.invariant table store g d) (c.put_choice-u.ensures.answer, c.put_choice-u.ensures.table) no_tilde bar c.unaries-right-else-k-eq-TILDE.ensures).1

-- ---- `consume_node`
-- `(` expression `)`

pub consume_node-overflow_add-deep : goal.consume_node-overflow_add-deep
consume_node-overflow_add-deep t c = omega (arith, group_deep (group c.requires.lent c.requires.tree_room c.kind_at.ensures c.if-kind_at-eq-OPENING_PAREN.true))

pub consume_node-overflow_add-at : goal.consume_node-overflow_add-at
consume_node-overflow_add-at t c = omega (arith, group_in (group c.requires.lent c.requires.tree_room c.kind_at.ensures c.if-kind_at-eq-OPENING_PAREN.true))

pub consume_node-consume_expr-inner-requires : goal.consume_node-consume_expr-inner-requires
consume_node-consume_expr-inner-requires t c =
    let b = group c.requires.lent c.requires.tree_room c.kind_at.ensures c.if-kind_at-eq-OPENING_PAREN.true in
    (omega (arith, group_falls b), (c.requires.lent, (c.requires.scalars, group_room b)))

pub consume_node-move_end-requires : goal.consume_node-move_end-requires
consume_node-move_end-requires t c =
    let b = group c.requires.lent c.requires.tree_room c.kind_at.ensures c.if-kind_at-eq-OPENING_PAREN.true in
    group_last b c.consume_expr-inner.ensures c.end_at-z.ensures

pub consume_node-overflow_add-result : goal.consume_node-overflow_add-result
consume_node-overflow_add-result t c =
    let b = group c.requires.lent c.requires.tree_room c.kind_at.ensures c.if-kind_at-eq-OPENING_PAREN.true in
    omega (arith, group_within b c.consume_expr-inner.ensures)

pub consume_node-returns-then-kind_at-eq-OPENING_PAREN : goal.consume_node-returns-then-kind_at-eq-OPENING_PAREN
consume_node-returns-then-kind_at-eq-OPENING_PAREN t c =
    let b = group c.requires.lent c.requires.tree_room c.kind_at.ensures c.if-kind_at-eq-OPENING_PAREN.true in
    group_built b c.consume_expr-inner.ensures c.end_at-z.ensures c.move_end.ensures

-- `PUSH(` expression `)`

pub consume_node-overflow_add-deep-then-spelled : goal.consume_node-overflow_add-deep-then-spelled
consume_node-overflow_add-deep-then-spelled t c =
    let b = pushed c.requires.lent c.requires.tree_room c.kind_at.ensures c.if-kind_at-eq-OPENING_PAREN.false c.spelled.ensures c.if-spelled.true in
    omega (arith, (push_in b).1)

pub consume_node-overflow_add-at-then-spelled : goal.consume_node-overflow_add-at-then-spelled
consume_node-overflow_add-at-then-spelled t c =
    let b = pushed c.requires.lent c.requires.tree_room c.kind_at.ensures c.if-kind_at-eq-OPENING_PAREN.false c.spelled.ensures c.if-spelled.true in
    omega (arith, (push_in b).0)

pub consume_node-overflow_add-at-then-spelled-2 : goal.consume_node-overflow_add-at-then-spelled-2
consume_node-overflow_add-at-then-spelled-2 t c =
    let b = pushed c.requires.lent c.requires.tree_room c.kind_at.ensures c.if-kind_at-eq-OPENING_PAREN.false c.spelled.ensures c.if-spelled.true in
    omega (arith, (push_in b).0)

pub consume_node-consume_expr-inner-requires-then-spelled : goal.consume_node-consume_expr-inner-requires-then-spelled
consume_node-consume_expr-inner-requires-then-spelled t c =
    let b = pushed c.requires.lent c.requires.tree_room c.kind_at.ensures c.if-kind_at-eq-OPENING_PAREN.false c.spelled.ensures c.if-spelled.true in
    (omega (arith, push_falls b), (c.requires.lent, (c.requires.scalars, push_room b)))

pub consume_node-put_unary-requires : goal.consume_node-put_unary-requires
consume_node-put_unary-requires t c =
    let b = pushed c.requires.lent c.requires.tree_room c.kind_at.ensures c.if-kind_at-eq-OPENING_PAREN.false c.spelled.ensures c.if-spelled.true in
    push_over b c.consume_expr-inner-then-spelled.ensures c.start_at-a.ensures

pub consume_node-overflow_add-result-then-spelled : goal.consume_node-overflow_add-result-then-spelled
consume_node-overflow_add-result-then-spelled t c =
    let b = pushed c.requires.lent c.requires.tree_room c.kind_at.ensures c.if-kind_at-eq-OPENING_PAREN.false c.spelled.ensures c.if-spelled.true in
    omega (arith, (push_within b c.consume_expr-inner-then-spelled.ensures).0)

pub consume_node-overflow_add-result-then-spelled-2 : goal.consume_node-overflow_add-result-then-spelled-2
consume_node-overflow_add-result-then-spelled-2 t c =
    let b = pushed c.requires.lent c.requires.tree_room c.kind_at.ensures c.if-kind_at-eq-OPENING_PAREN.false c.spelled.ensures c.if-spelled.true in
    omega (arith, (push_within b c.consume_expr-inner-then-spelled.ensures).1)

pub consume_node-returns-then-spelled : goal.consume_node-returns-then-spelled
consume_node-returns-then-spelled t c =
    let b = pushed c.requires.lent c.requires.tree_room c.kind_at.ensures c.if-kind_at-eq-OPENING_PAREN.false c.spelled.ensures c.if-spelled.true in
    push_built b c.consume_expr-inner-then-spelled.ensures c.start_at-a.ensures c.put_unary.ensures

-- a leaf

pub consume_node-put_leaf-requires : goal.consume_node-put_leaf-requires
consume_node-put_leaf-requires t c =
    let leaf = leaf_read _ _ _ _ (misses _ _ _ 6 c.kind_at.ensures c.if-kind_at-eq-OPENING_PAREN.false) (sym c.spelled.ensures ∙ c.if-spelled.false) in
    record { lent = c.requires.lent; scalars = c.requires.scalars; tree_room = room_same leaf c.requires.tree_room }

pub consume_node-returns : goal.consume_node-returns
consume_node-returns t c =
    let leaf = leaf_read _ _ _ _ (misses _ _ _ 6 c.kind_at.ensures c.if-kind_at-eq-OPENING_PAREN.false) (sym c.spelled.ensures ∙ c.if-spelled.false) in
    built_same leaf c.put_leaf.ensures

-- ---- `unaries`

pub unaries-get_node_tag-tag-requires : goal.unaries-get_node_tag-tag-requires
unaries-get_node_tag-tag-requires t c = record { lent = c.requires.lent; room = tag_room _ _ _ _ c.requires.tree_room }

pub unaries-consume_node-inner-requires : goal.unaries-consume_node-inner-requires
unaries-consume_node-inner-requires t c =
    let h = headed c.requires.lent c.requires.tree_room c.get_node_tag-tag.ensures.past c.get_node_tag-tag.ensures.stored c.predicates_end-first.ensures in
    (omega (arith, node_falls h), (c.requires.lent, (c.requires.scalars, node_room h)))

pub unaries-put_postfixes-tail-requires : goal.unaries-put_postfixes-tail-requires
unaries-put_postfixes-tail-requires t c =
    let h = headed c.requires.lent c.requires.tree_room c.get_node_tag-tag.ensures.past c.get_node_tag-tag.ensures.stored c.predicates_end-first.ensures in
    record { lent = c.requires.lent; posts_room = posts_room h c.consume_node-inner.ensures }

pub unaries-move_to_bracket-requires : goal.unaries-move_to_bracket-requires
unaries-move_to_bracket-requires t c =
    let h = headed c.requires.lent c.requires.tree_room c.get_node_tag-tag.ensures.past c.get_node_tag-tag.ensures.stored c.predicates_end-first.ensures in
    record { lent = c.requires.lent; used_in_bounds = open_room h c.consume_node-inner.ensures c.put_postfixes-tail.ensures }

pub unaries-put_predicates-u-requires : goal.unaries-put_predicates-u-requires
unaries-put_predicates-u-requires t c =
    let h = headed c.requires.lent c.requires.tree_room c.get_node_tag-tag.ensures.past c.get_node_tag-tag.ensures.stored c.predicates_end-first.ensures in
    record { lent = c.requires.lent; signs_room = signs_room h c.consume_node-inner.ensures c.put_postfixes-tail.ensures c.move_to_bracket.ensures }

pub unaries-put_tag-requires : goal.unaries-put_tag-requires
unaries-put_tag-requires t c =
    let h = headed c.requires.lent c.requires.tree_room c.get_node_tag-tag.ensures.past c.get_node_tag-tag.ensures.stored c.predicates_end-first.ensures in
    record {
      lent = c.requires.lent;
      tag_room = tie_room h c.consume_node-inner.ensures c.put_postfixes-tail.ensures c.move_to_bracket.ensures
          (c.put_predicates-u.ensures.answer, c.put_predicates-u.ensures.table) c.term_start-a.ensures;
    }

pub unaries-returns : goal.unaries-returns
unaries-returns t c =
    let h = headed c.requires.lent c.requires.tree_room c.get_node_tag-tag.ensures.past c.get_node_tag-tag.ensures.stored c.predicates_end-first.ensures in
    term_built h c.consume_node-inner.ensures c.put_postfixes-tail.ensures c.move_to_bracket.ensures
    (c.put_predicates-u.ensures.answer, c.put_predicates-u.ensures.table) c.term_start-a.ensures c.put_tag.ensures
