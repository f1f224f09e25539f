-- A tree's records are as long as they should be, and a table that has them has the tree.
use Rattle.std.specs.Prelude.{Some, None}
use mathlib.Core.Path.{◌≡◌, refl, sym, ap, ◌∙◌}
use mathlib.Core.List.{List, ◌++◌, append_assoc}
use Prim.Native.Nat.{ℕ, ◌+◌, ◌*◌}
use native.Mathlib.Omega.{arith}
use lib.ListN.{length, get_or, length-append}
use Rattle.table.specs.declared.Join.{Join}
use Rattle.table.specs.declared.Join.TheVariants.{Seq, Choice}
use Rattle.table.specs.declared.Unary.TheVariants.{PosPred, NegPred, Opt, Rep, RepOnce, RepExact, RepMin, RepMax, RepMinMax, Push}
use Rattle.table.specs.declared.Sort.TheVariants.{Str, Insens, Ident, PushLiteral}
use Rattle.table.specs.declared.Leaf.TheVariants.{Text, Range, PeekSlice}
use Rattle.table.specs.declared.Op.TheVariants.{Plain, NodeTag}
use Rattle.table.specs.declared.Node.{Node}
use Rattle.table.specs.declared.Node.TheVariants.{Tip, One, Two, Unknown}
use Rattle.table.specs.Tree.{Span, Atom, text, range, peek_slice, Wrap, plain, node_tag, Tree, leaf, one, two, place_of, placed, below, count, atom_stored, wrap_stored, stored, size}
use Rattle.table.specs.Record.{node_size, node_of, node_at, span_at, tip, wrap, atom_of, wrap_of}
use Rattle.table.specs.Flat.{Numbers, numbers_of, node_record, record_of, root_node, front, leaf_at, op_at, flat, Lies}
use Rattle.table.proofs.Nodes.{row_is}
use Rattle.table.proofs.Held.{Held, held_left, held_right, held_part, held_at}

-- ---- a record

-- what a node's record says
pub record Recorded (ns : List ℕ) (i : ℕ) (s : Span) (x : Node) : Type 0 where
  pub span : span_at ns i ≡ s
  pub node : node_at ns i ≡ x

pub span_is : (s : Span) (a z : ℕ) → a ≡ s.start → z ≡ s.stop → ◌≡◌ {A = Span} (record { start = a; stop = z }) s
span_is s a z e f = ap (λ (x : ℕ). record { start = x; stop = z }) e ∙ ap (λ (x : ℕ). record { start = s.start; stop = x }) f

numbers_at : (line : ℕ → ℕ) (ns : List ℕ) (i : ℕ) (s : Span) (x : Numbers) → Held ns (node_size * i) (node_record line s x) → (span_at ns i ≡ s) × (node_at ns i ≡ node_of x.kind x.p x.q x.r)
unfolding span_at node_at
numbers_at line ns i s x h =
    let e₀ : get_or ns (node_size * i) 0 ≡ x.kind = held_at 0 (node_size * i) h (omega arith) in
    let e₃ : get_or ns (node_size * i + 3) 0 ≡ x.p = held_at 3 (node_size * i + 3) h refl in
    let e₄ : get_or ns (node_size * i + 4) 0 ≡ x.q = held_at 4 (node_size * i + 4) h refl in
    let e₅ : get_or ns (node_size * i + 5) 0 ≡ x.r = held_at 5 (node_size * i + 5) h refl in
    (span_is s _ _ (held_at 1 (node_size * i + 1) h refl) (held_at 2 (node_size * i + 2) h refl), rw (e₀, e₃, e₄, e₅))

-- the numbers of a node are its own
numbers_back : (x : Node) → node_of (numbers_of x).kind (numbers_of x).p (numbers_of x).q (numbers_of x).r ≡ x
unfolding numbers_of node_of
numbers_back (Tip (Text Str p n)) = refl
numbers_back (Tip (Text Insens p n)) = refl
numbers_back (Tip (Text Ident p n)) = refl
numbers_back (Tip (Text PushLiteral p n)) = refl
numbers_back (Tip (Range x y)) = refl
numbers_back (Tip (PeekSlice x None)) = refl
numbers_back (Tip (PeekSlice x (Some y))) = refl
numbers_back (One (Plain PosPred) c) = refl
numbers_back (One (Plain NegPred) c) = refl
numbers_back (One (Plain Opt) c) = refl
numbers_back (One (Plain Rep) c) = refl
numbers_back (One (Plain RepOnce) c) = refl
numbers_back (One (Plain (RepExact n)) c) = refl
numbers_back (One (Plain (RepMin n)) c) = refl
numbers_back (One (Plain (RepMax n)) c) = refl
numbers_back (One (Plain (RepMinMax n m)) c) = refl
numbers_back (One (Plain Push) c) = refl
numbers_back (One (NodeTag p n) c) = refl
numbers_back (Two Seq a b) = refl
numbers_back (Two Choice a b) = refl
numbers_back Unknown = refl

pub recorded : (line : ℕ → ℕ) (ns : List ℕ) (i : ℕ) (s : Span) (x : Node) → Held ns (node_size * i) (record_of line s x) → Recorded ns i s x
recorded line ns i s x h = let e = numbers_at line ns i s (numbers_of x) h in record { span = e.0; node = e.1 ∙ numbers_back x }

-- ---- a tree

pub length_flat : (line : ℕ → ℕ) (i at : ℕ) (t : Tree Span) → length (flat line i at t) ≡ node_size * count t
unfolding flat below
length_flat line i at (leaf s a) = refl
length_flat line i at (one s o t) =
    length-append (flat line i (at + length (wrap_stored o)) t) (record_of line s (One (op_at at o) (i + below t)))
    ∙ omega (arith, length_flat line i (at + length (wrap_stored o)) t)
length_flat line i at (two s j a b) =
    let r = record_of line s (Two j (i + below a) (i + count a + below b)) in
    length-append (flat line i at a) (flat line (i + count a) (at + size a) b ++ r)
    ∙ omega (
      arith,
      length-append (flat line (i + count a) (at + size a) b) r,
      length_flat line i at a,
      length_flat line (i + count a) (at + size a) b,
    )

pub atom_back : (st : List ℕ) (at : ℕ) (a : Atom) → Held st at (atom_stored a) → atom_of st (leaf_at at a) ≡ a
atom_back st at (text k b) h = ap (text k) (held_part h)
atom_back st at (range x y) h = refl
atom_back st at (peek_slice x e) h = refl

pub wrap_back : (st : List ℕ) (at : ℕ) (o : Wrap) → Held st at (wrap_stored o) → wrap_of st (op_at at o) ≡ o
wrap_back st at (plain u) h = refl
wrap_back st at (node_tag b) h = ap node_tag (held_part h)

-- a tree's records end with its root's, whose span alone tells its place
pub flat_root : (line : ℕ → ℕ) (i at : ℕ) (s : Span) (t : Tree Span) → flat line i at (placed s t) ≡ front line i at t ++ record_of line s (root_node i at t)
unfolding flat front
flat_root line i at s (leaf _ a) = refl
flat_root line i at s (one _ o t) = refl
flat_root line i at s (two _ j a b) =
    sym (append_assoc (flat line i at a) (flat line (i + count a) (at + size a) b) (record_of line s (Two j (i + below a) (i + count a + below b))))

pub placed_same : {P : Type 0} (t : Tree P) → placed (place_of t) t ≡ t
placed_same (leaf s a) = refl
placed_same (one s o t) = refl
placed_same (two s j a b) = refl

pub flat_own : (line : ℕ → ℕ) (i at : ℕ) (t : Tree Span) → flat line i at t ≡ front line i at t ++ record_of line (place_of t) (root_node i at t)
flat_own line i at t = ap (flat line i at) (sym (placed_same t)) ∙ flat_root line i at (place_of t) t

pub length_front : (line : ℕ → ℕ) (i at : ℕ) (t : Tree Span) → length (front line i at t) ≡ node_size * below t
length_front line i at t =
    let e = ap length (flat_own line i at t) in
    omega (arith, length_flat line i at t, length-append (front line i at t) (record_of line (place_of t) (root_node i at t)))

-- a table that has a tree's records from index i on, and a store that has its texts from an offset on
pub record Holds (line : ℕ → ℕ) (ns st : List ℕ) (i at : ℕ) (t : Tree Span) : Type 0 where
  pub table : Held ns (node_size * i) (flat line i at t)
  pub store : Held st at (stored t)

module _ {line : ℕ → ℕ} {ns st : List ℕ} {i at : ℕ} where
  pub leaf_recorded : {s : Span} {a : Atom} → Holds line ns st i at (leaf s a) → Recorded ns i s (Tip (leaf_at at a))
  unfolding flat
  leaf_recorded {s} {a} h = recorded line ns i s (Tip (leaf_at at a)) h.table

  pub leaf_text : {s : Span} {a : Atom} → Holds line ns st i at (leaf s a) → Held st at (atom_stored a)
  unfolding stored
  leaf_text h = h.store

  module _ {s : Span} {o : Wrap} {t : Tree Span} (h : Holds line ns st i at (one s o t)) where
    pub one_part : Holds line ns st i (at + length (wrap_stored o)) t
    unfolding flat stored
    one_part = record {
      table = held_left (flat line i (at + length (wrap_stored o)) t) (record_of line s (One (op_at at o) (i + below t))) h.table;
      store = held_right (at + length (wrap_stored o)) (wrap_stored o) (stored t) refl h.store;
    }

    pub one_recorded : Recorded ns (i + count t) s (One (op_at at o) (i + below t))
    unfolding flat
    one_recorded = recorded line ns (i + count t) s (One (op_at at o) (i + below t))
        (held_right (node_size * (i + count t)) (flat line i (at + length (wrap_stored o)) t) (record_of line s (One (op_at at o) (i + below t)))
        (omega (arith, length_flat line i (at + length (wrap_stored o)) t)) h.table)

    pub one_text : Held st at (wrap_stored o)
    unfolding stored
    one_text = held_left (wrap_stored o) (stored t) h.store

  module _ {s : Span} {j : Join} {a b : Tree Span} (h : Holds line ns st i at (two s j a b)) where
    later : Held ns (node_size * (i + count a)) (flat line (i + count a) (at + size a) b ++ record_of line s (Two j (i + below a) (i + count a + below b)))
    unfolding flat
    later = held_right (node_size * (i + count a)) (flat line i at a) (flat line (i + count a) (at + size a) b ++ record_of line s (Two j (i + below a) (i + count a + below b)))
        (omega (arith, length_flat line i at a)) h.table

    pub left_part : Holds line ns st i at a
    unfolding flat stored
    left_part = record {
      table = held_left (flat line i at a) (flat line (i + count a) (at + size a) b ++ record_of line s (Two j (i + below a) (i + count a + below b))) h.table;
      store = held_left (stored a) (stored b) h.store;
    }

    pub right_part : Holds line ns st (i + count a) (at + size a) b
    unfolding stored
    right_part = record {
      table = held_left (flat line (i + count a) (at + size a) b) (record_of line s (Two j (i + below a) (i + count a + below b))) later;
      store = held_right (at + size a) (stored a) (stored b) refl h.store;
    }

    pub two_recorded : Recorded ns (i + count a + count b) s (Two j (i + below a) (i + count a + below b))
    two_recorded = recorded line ns (i + count a + count b) s (Two j (i + below a) (i + count a + below b))
        (held_right (node_size * (i + count a + count b)) (flat line (i + count a) (at + size a) b) (record_of line s (Two j (i + below a) (i + count a + below b)))
        (omega (arith, length_flat line (i + count a) (at + size a) b)) later)

-- a table that has a tree's records has the tree
pub lies_flat : {line : ℕ → ℕ} {ns st : List ℕ} (i at : ℕ) (t : Tree Span) → Holds line ns st i at t → Lies ns st i t
lies_flat {line} {ns} {st} i at (leaf s a) h =
    let r = leaf_recorded h in
    (r.span, row_is ns st i r.node ∙ ap tip (atom_back st at a (leaf_text h)))
lies_flat {line} {ns} {st} i at (one s o t) h =
    let r = one_recorded h in (
      lies_flat i (at + length (wrap_stored o)) t (one_part h),
      r.span,
      row_is ns st (i + count t) r.node ∙ ap (λ x. wrap x (i + below t)) (wrap_back st at o (one_text h)),
    )
lies_flat {line} {ns} {st} i at (two s j a b) h =
    let r = two_recorded h in
    (lies_flat i at a (left_part h), lies_flat (i + count a) (at + size a) b (right_part h), r.span, row_is ns st (i + count a + count b) r.node)
