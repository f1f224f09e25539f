-- Trees in tables: a table that has a tree is read back as it, and nodes that aren't false have their trees.
use mathlib.Core.Path.{◌≡◌, refl, sym, ap, ◌∙◌}
use mathlib.Core.Bool.{true}
use mathlib.Core.List.{List}
use mathlib.Core.Logic.{⊎_elim}
use Prim.Native.Nat.{ℕ, zero, suc, ◌+◌, ◌≤◌, ◌<◌}
use native.Mathlib.Nat.{eq-or-lt_of_le}
use native.Mathlib.Omega.{arith}
use lib.Dec.{eqb}
use lib.ListN.{length}
use borrow.Author.Tests.{le-leb, eq-eqb}
use Rattle.table.specs.declared.Join.{Join}
use Rattle.table.specs.declared.Leaf.{Leaf}
use Rattle.table.specs.declared.Op.{Op}
use Rattle.table.specs.declared.Node.{Node}
use Rattle.table.specs.declared.Node.TheVariants.{Tip, One, Two, Unknown}
use Rattle.table.specs.Tree.{Span, Atom, text, range, peek_slice, Wrap, plain, node_tag, Tree, leaf, one, two, below, count, atom_stored, wrap_stored, size}
use Rattle.table.specs.Record.{node_at, span_at, wrap, pair, atom_of, wrap_of, row_at, tree_at, first_at}
use Rattle.table.specs.Flat.{leaf_at, op_at, Lies}
use Rattle.table.specs.Check.{fine_atom, fine_wrap, good_leaf, good_op, good_at, fine, SoundUpTo}
use Rattle.text.proofs.Tests.{lt_or_ge}
use Rattle.text.proofs.Booleans.{and_both, and_true}
use Rattle.table.proofs.Nodes.{first_tip, first_one, first_two, row_is, row_tree_tip, row_tree_one, row_tree_two, tree_tip, tree_one, tree_two, good_is, sound_tip, sound_one, sound_two, sound_unknown, sound_below}
use Rattle.table.proofs.Texts.{leaf_fine, op_fine}
use Rattle.table.proofs.Held.{Held, held_part, held_inside}
use Rattle.table.proofs.Flats.{Holds, leaf_recorded, leaf_text, one_part, one_recorded, one_text, left_part, right_part, two_recorded}

below_leaf : {P : Type 0} (s : P) (a : Atom) → below (leaf s a) ≡ 0
unfolding below
below_leaf s a = refl

below_one : {P : Type 0} (s : P) (o : Wrap) (t : Tree P) → below (one s o t) ≡ count t
unfolding below
below_one s o t = refl

below_two : {P : Type 0} (s : P) (j : Join) (a b : Tree P) → below (two s j a b) ≡ count a + count b
unfolding below
below_two s j a b = omega arith

-- ---- a tree that lies in a table

module _ (ns st : List ℕ) where
  -- its tree is read back
  pub lies_tree : (i : ℕ) (t : Tree Span) (r : ℕ) → r ≡ i + below t → Lies ns st i t → tree_at ns st r ≡ t
  lies_tree i (leaf s a) r e h =
      let z : r ≡ i = omega (arith, below_leaf s a) in
      row_tree_tip ns st r (ap (row_at ns st) z ∙ h.1) ∙ ap (λ x. leaf x a) (ap (span_at ns) z ∙ h.0)
  lies_tree i (one s o t) r e h =
      let z : r ≡ i + count t = omega (arith, below_one s o t) in
      row_tree_one ns st r (ap (row_at ns st) z ∙ h.2) (omega arith) ∙ ap (λ x. one x o (tree_at ns st (i + below t))) (ap (span_at ns) z ∙ h.1)
      ∙ ap (one s o) (lies_tree i t (i + below t) refl h.0)
  lies_tree i (two s j a b) r e h =
      let z : r ≡ i + count a + count b = omega (arith, below_two s j a b) in
      row_tree_two ns st r (ap (row_at ns st) z ∙ h.3) (omega arith) (omega arith)
      ∙ ap (λ x. two x j (tree_at ns st (i + below a)) (tree_at ns st (i + count a + below b))) (ap (span_at ns) z ∙ h.2)
      ∙ ap (λ x. two s j x (tree_at ns st (i + count a + below b))) (lies_tree i a (i + below a) refl h.0)
      ∙ ap (two s j a) (lies_tree (i + count a) b (i + count a + below b) refl h.1)

module _ (ns st ns' st' : List ℕ) where
  -- a tree lies in a table in one way, but for where its texts are
  pub lies_alike : (i : ℕ) (t : Tree Span) → Lies ns st i t → Lies ns' st' i t
      → (k : ℕ) → i ≤ k → k ≤ i + below t → (span_at ns k ≡ span_at ns' k) × (row_at ns st k ≡ row_at ns' st' k)
  lies_alike i (leaf s a) h g k l m =
      let z : k ≡ i = omega (arith, below_leaf s a) in rw z (h.0 ∙ sym g.0, h.1 ∙ sym g.1)
  lies_alike i (one s o t) h g k l m = ⊎_elim
      (λ e. let z : k ≡ i + count t = omega (arith, below_one s o t) in rw z (h.1 ∙ sym g.1, h.2 ∙ sym g.2))
      (λ n. lies_alike i t h.0 g.0 k l (omega (arith, below_one s o t)))
      (eq-or-lt_of_le m)
  lies_alike i (two s j a b) h g k l m = ⊎_elim
      (λ e. let z : k ≡ i + count a + count b = omega (arith, below_two s j a b) in rw z (h.2 ∙ sym g.2, h.3 ∙ sym g.3))
      (λ n. ⊎_elim
      (λ x. lies_alike i a h.0 g.0 k l (omega arith))
      (λ y. lies_alike (i + count a) b h.1 g.1 k y (omega (arith, below_two s j a b)))
      (lt_or_ge k (i + count a)))
      (eq-or-lt_of_le m)

-- ---- nodes that aren't false

-- the tree of a node: it lies in the table from its first node on, and its texts and characters are fine
pub record Read (ns st : List ℕ) (r : ℕ) : Type 0 where
  pub lies : Lies ns st (first_at ns r) (tree_at ns st r)
  pub root : first_at ns r + below (tree_at ns st r) ≡ r
  pub is_fine : fine (tree_at ns st r) ≡ true

-- from what is known of the first node and the tree
read_as : (ns st : List ℕ) (r i : ℕ) (t : Tree Span) → first_at ns r ≡ i → tree_at ns st r ≡ t → Lies ns st i t → i + below t ≡ r → fine t ≡ true → Read ns st r
read_as ns st r i t e f h g k =
    record { lies = rw (e, f) h; root = rw (e, f) g; is_fine = rw f k }

module _ (ns st : List ℕ) (r : ℕ) (s : SoundUpTo ns st (r + 1)) where
  read_tip : (l : Leaf) → node_at ns r ≡ Tip l → Read ns st r
  unfolding fine
  read_tip l e =
      read_as ns st r r (leaf (span_at ns r) (atom_of st l)) (first_tip ns r e) (tree_tip ns st r e) (refl, row_is ns st r e)
      (omega (arith, below_leaf (span_at ns r) (atom_of st l))) (leaf_fine st l (sound_tip ns st r s e))

  read_one : (o : Op) (c : ℕ) → node_at ns r ≡ One o c → Read ns st c → Read ns st r
  unfolding fine
  read_one o c e h =
      let b = sound_one ns st r s e in
      let p : first_at ns c + count (tree_at ns st c) ≡ r = omega (arith, h.root) in
      read_as ns st r (first_at ns c) (one (span_at ns r) (wrap_of st o) (tree_at ns st c)) (first_one ns r e (omega arith)) (tree_one ns st r e (omega arith))
      (h.lies, ap (span_at ns) p, ap (row_at ns st) p ∙ row_is ns st r e ∙ ap (wrap (wrap_of st o)) (sym h.root))
      (omega (arith, below_one (span_at ns r) (wrap_of st o) (tree_at ns st c)))
      (and_both (fine_wrap (wrap_of st o)) (fine (tree_at ns st c)) (op_fine st o b.1) h.is_fine)

  read_two : (j : Join) (a b : ℕ) → node_at ns r ≡ Two j a b → Read ns st a → Read ns st b → Read ns st r
  unfolding fine
  read_two j a b e h g =
      let w = sound_two ns st r s e in
      let u = tree_at ns st a in
      let v = tree_at ns st b in
      let m : first_at ns b ≡ first_at ns a + count u = omega (arith, h.root) in
      let n : first_at ns a + count u + below v ≡ b = omega (arith, g.root) in
      let p : first_at ns a + count u + count v ≡ r = omega arith in
      read_as ns st r (first_at ns a) (two (span_at ns r) j u v) (first_two ns r e w.2) (tree_two ns st r e w.2 (omega arith))
      (h.lies, rw m at g.lies, ap (span_at ns) p, ap (row_at ns st) p ∙ row_is ns st r e ∙ ap (λ x. pair j x b) (sym h.root) ∙ ap (pair j (first_at ns a + below u)) (sym n))
      (omega (arith, below_two (span_at ns r) j u v))
      (and_both (fine u) (fine v) h.is_fine g.is_fine)

-- by the shape of the node, the trees of those before it being read
read_node : (ns st : List ℕ) (r : ℕ) → SoundUpTo ns st (r + 1) → ((k : ℕ) → k < r → Read ns st k) → (x : Node) → node_at ns r ≡ x → Read ns st r
read_node ns st r s h (Tip l) e = read_tip ns st r s l e
read_node ns st r s h (One o c) e = let b = sound_one ns st r s e in read_one ns st r s o c e (h c (omega arith))
read_node ns st r s h (Two j a b) e = let w = sound_two ns st r s e in read_two ns st r s j a b e (h a w.2) (h b (omega arith))
read_node ns st r s h Unknown e = absurd (sound_unknown ns st r s e)

read_below : (ns st : List ℕ) (n : ℕ) → SoundUpTo ns st n → (r : ℕ) → r < n → Read ns st r
read_below ns st zero s r l = absurd (omega arith)
read_below ns st (suc n) s r l = ⊎_elim
    (λ e. read_node ns st r (sound_below (r + 1) (omega arith) s) (λ k m. read_below ns st n (sound_below n (omega arith) s) k (omega arith)) (node_at ns r) refl)
    (λ m. read_below ns st n (sound_below n (omega arith) s) r (omega arith))
    (eq-or-lt_of_le l)

pub read : {ns st : List ℕ} {n : ℕ} → SoundUpTo ns st n → (r : ℕ) → r < n → Read ns st r
read {ns} {st} {n} s r l = read_below ns st n s r l

-- ---- the records of a fine tree aren't false

leaf_good : (st : List ℕ) (at : ℕ) (a : Atom) → Held st at (atom_stored a) → fine_atom a ≡ true → good_leaf st (leaf_at at a) ≡ true
unfolding good_leaf
leaf_good st at (text k b) h f = and_both _ _ (le-leb (at + length b) (length st) (held_inside h)) (ap (λ x. fine_atom (text k x)) (held_part h) ∙ f)
leaf_good st at (range x y) h f = f
leaf_good st at (peek_slice x e) h f = refl

op_good : (st : List ℕ) (at : ℕ) (o : Wrap) → Held st at (wrap_stored o) → fine_wrap o ≡ true → good_op st (op_at at o) ≡ true
unfolding good_op
op_good st at (plain u) h f = refl
op_good st at (node_tag b) h f = and_both _ _ (le-leb (at + length b) (length st) (held_inside h)) (ap (λ x. fine_wrap (node_tag x)) (held_part h) ∙ f)

module _ {line : ℕ → ℕ} {ns st : List ℕ} where
  -- its first node is the first
  pub flat_first : (i at : ℕ) (t : Tree Span) (r : ℕ) → r ≡ i + below t → Holds line ns st i at t → first_at ns r ≡ i
  flat_first i at (leaf s a) r e h =
      let z : r ≡ i = omega (arith, below_leaf s a) in
      rw z (first_tip ns i (leaf_recorded h).node)
  flat_first i at (one s o t) r e h =
      let z : r ≡ i + count t = omega (arith, below_one s o t) in
      rw z (first_one ns (i + count t) (one_recorded h).node (omega arith) ∙ flat_first i (at + length (wrap_stored o)) t (i + below t) refl (one_part h))
  flat_first i at (two s j a b) r e h =
      let z : r ≡ i + count a + count b = omega (arith, below_two s j a b) in
      rw z (first_two ns (i + count a + count b) (two_recorded h).node (omega arith) ∙ flat_first i at a (i + below a) refl (left_part h))

  pub flat_good : (i at : ℕ) (t : Tree Span) → Holds line ns st i at t → fine t ≡ true → (k : ℕ) → i ≤ k → k ≤ i + below t → good_at ns st k ≡ true
  unfolding fine
  flat_good i at (leaf s a) h f k l m =
      let z : k ≡ i = omega (arith, below_leaf s a) in
      rw z (good_is ns st i (leaf_recorded h).node ∙ leaf_good st at a (leaf_text h) f)
  flat_good i at (one s o t) h f k l m =
      let g = and_true (fine_wrap o) (fine t) f in
      ⊎_elim
      (λ e. let z : k ≡ i + count t = omega (arith, below_one s o t) in
      rw z (good_is ns st (i + count t) (one_recorded h).node
      ∙ and_both (eqb (i + below t + 1) (i + count t)) (good_op st (op_at at o)) (eq-eqb (i + below t + 1) (i + count t) (omega arith)) (op_good st at o (one_text h) g.0)))
      (λ n. flat_good i (at + length (wrap_stored o)) t (one_part h) g.1 k l (omega (arith, below_one s o t)))
      (eq-or-lt_of_le m)
  flat_good i at (two s j a b) h f k l m =
      let g = and_true (fine a) (fine b) f in
      ⊎_elim
      (λ e. let z : k ≡ i + count a + count b = omega (arith, below_two s j a b) in
      rw z (good_is ns st (i + count a + count b) (two_recorded h).node
      ∙ and_both (eqb (i + count a + below b + 1) (i + count a + count b)) (eqb (i + below a + 1) (first_at ns (i + count a + below b)))
      (eq-eqb (i + count a + below b + 1) (i + count a + count b) (omega arith))
      (eq-eqb (i + below a + 1) (first_at ns (i + count a + below b)) (omega (arith, flat_first (i + count a) (at + size a) b (i + count a + below b) refl (right_part h))))))
      (λ n. ⊎_elim
      (λ x. flat_good i at a (left_part h) g.0 k l (omega arith))
      (λ y. flat_good (i + count a) (at + size a) b (right_part h) g.1 k y (omega (arith, below_two s j a b)))
      (lt_or_ge k (i + count a)))
      (eq-or-lt_of_le m)
