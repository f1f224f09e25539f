-- Laws of nodes: what a record's node says of its first node, its tree and its goodness.
use mathlib.Core.Path.{◌≡◌, sym, ap, ◌∙◌}
use mathlib.Core.Bool.{true}
use mathlib.Core.List.{List}
use mathlib.Core.Logic.{⊎_elim}
use Prim.Native.Nat.{ℕ, suc, ◌+◌, ◌≤◌, ◌<◌}
use native.Mathlib.Nat.{le_refl}
use native.Mathlib.Omega.{arith}
use lib.Dec.{eqb}
use lib.ListN.{length, get_or, get_or-eq_default}
use borrow.Author.Tests.{eqb-true}
use Rattle.text.proofs.Tests.{lt_or_ge}
use Rattle.text.proofs.Booleans.{and_true}
use Rattle.table.specs.declared.Join.{Join}
use Rattle.table.specs.declared.Leaf.{Leaf}
use Rattle.table.specs.declared.Op.{Op}
use Rattle.table.specs.declared.Node.{Node}
use Rattle.table.specs.declared.Node.TheVariants.{Tip, One, Two, Unknown}
use Rattle.table.specs.Tree.{Span, Tree, leaf, one, two, Atom, Wrap}
use Rattle.table.specs.Record.{node_at, span_at, Row, tip, wrap, pair, atom_of, wrap_of, row_of, row_at, column, entry, blank, tree_of, tree_by, tree_at, first_of, first_by, first_at}
use Rattle.table.specs.Check.{good_leaf, good_op, good_node, good_at, SoundUpTo}
use Rattle.table.proofs.Columns.{length_column, column_at, column_all}

-- ---- first nodes

entry_le : (fs : List ℕ) (i c : ℕ) → length fs ≡ i → ((k : ℕ) → k < i → get_or fs k 0 ≤ k) → get_or fs c 0 ≤ i
entry_le fs i c e h = ⊎_elim (λ l. omega (arith, h c l)) (λ g. omega (arith, get_or-eq_default fs 0 {n = c} (omega arith))) (lt_or_ge c i)

first_of_le : (x : Node) (i : ℕ) (fs : List ℕ) → length fs ≡ i → ((k : ℕ) → k < i → get_or fs k 0 ≤ k) → first_of x i fs ≤ i
first_of_le (Tip l) i fs e h = le_refl i
first_of_le (One o c) i fs e h = entry_le fs i c e h
first_of_le (Two j a b) i fs e h = entry_le fs i a e h
first_of_le Unknown i fs e h = le_refl i

first_by_le : (ns : List ℕ) (i : ℕ) → ((k : ℕ) → k < i → entry (first_by ns) k ≤ k) → entry (first_by ns) i ≤ i
first_by_le ns i h = first_of_le (node_at ns i) i (column (first_by ns) i) (length_column (first_by ns) i)
    (λ k l. let e = column_at (first_by ns) 0 i k l in let m = h k l in omega arith)

pub first_le : (ns : List ℕ) (i : ℕ) → first_at ns i ≤ i
unfolding first_at
first_le ns i = column_all (first_by ns) (λ k x. x ≤ k) (first_by_le ns) (suc i) i (omega arith)

module _ (ns : List ℕ) (i : ℕ) where
  pub first_tip : {l : Leaf} → node_at ns i ≡ Tip l → first_at ns i ≡ i
  unfolding first_at
  first_tip e = ap (λ x. first_of x i (column (first_by ns) i)) e

  pub first_one : {o : Op} {c : ℕ} → node_at ns i ≡ One o c → c < i → first_at ns i ≡ first_at ns c
  unfolding first_at
  first_one {c = c} e h = ap (λ x. first_of x i (column (first_by ns) i)) e ∙ column_at (first_by ns) 0 i c h

  pub first_two : {j : Join} {a b : ℕ} → node_at ns i ≡ Two j a b → a < i → first_at ns i ≡ first_at ns a
  unfolding first_at
  first_two {a = a} e h = ap (λ x. first_of x i (column (first_by ns) i)) e ∙ column_at (first_by ns) 0 i a h

-- ---- trees

module _ (ns st : List ℕ) (i : ℕ) where
  -- a row's tree, from those of the nodes before it
  abbrev grown : Row → Tree Span
  grown x = tree_of (span_at ns i) x (column (tree_by ns st) i)

  pub row_tree_tip : {a : Atom} → row_at ns st i ≡ tip a → tree_at ns st i ≡ leaf (span_at ns i) a
  unfolding tree_at
  row_tree_tip e = ap grown e

  pub row_tree_one : {o : Wrap} {c : ℕ} → row_at ns st i ≡ wrap o c → c < i → tree_at ns st i ≡ one (span_at ns i) o (tree_at ns st c)
  unfolding tree_at
  row_tree_one {o} {c} e h = ap grown e ∙ ap (one (span_at ns i) o) (column_at (tree_by ns st) blank i c h)

  pub row_tree_two : {j : Join} {a b : ℕ} → row_at ns st i ≡ pair j a b → a < i → b < i → tree_at ns st i ≡ two (span_at ns i) j (tree_at ns st a) (tree_at ns st b)
  unfolding tree_at
  row_tree_two {j} {a} {b} e h l =
      ap grown e
      ∙ ap (λ t. two (span_at ns i) j t (get_or (column (tree_by ns st) i) b blank)) (column_at (tree_by ns st) blank i a h)
      ∙ ap (two (span_at ns i) j (tree_at ns st a)) (column_at (tree_by ns st) blank i b l)

  pub row_is : {x : Node} → node_at ns i ≡ x → row_at ns st i ≡ row_of st x
  unfolding row_at
  row_is e = ap (row_of st) e

  pub tree_tip : {l : Leaf} → node_at ns i ≡ Tip l → tree_at ns st i ≡ leaf (span_at ns i) (atom_of st l)
  tree_tip e = row_tree_tip (row_is e)

  pub tree_one : {o : Op} {c : ℕ} → node_at ns i ≡ One o c → c < i → tree_at ns st i ≡ one (span_at ns i) (wrap_of st o) (tree_at ns st c)
  tree_one e h = row_tree_one (row_is e) h

  pub tree_two : {j : Join} {a b : ℕ} → node_at ns i ≡ Two j a b → a < i → b < i → tree_at ns st i ≡ two (span_at ns i) j (tree_at ns st a) (tree_at ns st b)
  tree_two e h l = row_tree_two (row_is e) h l

  -- ---- goodness

  pub good_is : {x : Node} → node_at ns i ≡ x → good_at ns st i ≡ good_node ns st i x
  unfolding good_at
  good_is e = ap (good_node ns st i) e

  -- ---- nodes of which those up to i are not false

  module _ (s : SoundUpTo ns st (i + 1)) where
    is_good_lem : {x : Node} → node_at ns i ≡ x → good_node ns st i x ≡ true
    is_good_lem e = sym (good_is e) ∙ s.good i (omega arith)

    pub sound_tip : {l : Leaf} → node_at ns i ≡ Tip l → good_leaf st l ≡ true
    sound_tip e = is_good_lem e

    -- a lone child is the node just before
    pub sound_one : {o : Op} {c : ℕ} → node_at ns i ≡ One o c → (c + 1 ≡ i) × (good_op st o ≡ true)
    sound_one {o} {c} e = let b = and_true (eqb (c + 1) i) (good_op st o) (is_good_lem e) in (eqb-true (c + 1) i b.0, b.1)

    -- a right child is that too, and the left child stands just before the right child's first node
    pub sound_two : {j : Join} {a b : ℕ} → node_at ns i ≡ Two j a b → (b + 1 ≡ i) × (a + 1 ≡ first_at ns b) × (a < i)
    sound_two {j} {a} {b} e =
        let g = and_true (eqb (b + 1) i) (eqb (a + 1) (first_at ns b)) (is_good_lem e) in
        let r = eqb-true (b + 1) i g.0 in
        let l = eqb-true (a + 1) (first_at ns b) g.1 in
        (r, l, omega (arith, first_le ns b))

    pub sound_unknown : node_at ns i ≡ Unknown → ⊥
    sound_unknown e = let g = is_good_lem e in let z : ◌≡◌ {A = ℕ} 0 1 = cc in omega arith

    pub sound_tree_one : {o : Op} {c : ℕ} → node_at ns i ≡ One o c → tree_at ns st i ≡ one (span_at ns i) (wrap_of st o) (tree_at ns st c)
    sound_tree_one e = let b = sound_one e in tree_one e (omega arith)

    pub sound_tree_two : {j : Join} {a b : ℕ} → node_at ns i ≡ Two j a b → tree_at ns st i ≡ two (span_at ns i) j (tree_at ns st a) (tree_at ns st b)
    sound_tree_two e = let b = sound_two e in tree_two e b.2 (omega arith)

pub sound_below : {ns st : List ℕ} {n : ℕ} (m : ℕ) → m ≤ n → SoundUpTo ns st n → SoundUpTo ns st m
sound_below m h s = record { whole = omega (arith, s.whole); good = λ k l. s.good k (omega arith) }
