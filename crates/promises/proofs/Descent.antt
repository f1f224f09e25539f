-- The descent on the tokens of a marked tree that has brackets enough comes to `whole` of it, at either level.
use Rattle.std.specs.Prelude.{Option, Some, None}
use Prim.Native.Nat.{ℕ, ◌+◌, ◌-◌, ◌≤◌}
use mathlib.Core.Path.{◌≡◌, refl, sym, ap, ◌∙◌, subst}
use mathlib.Core.Bool.{Bool, true, false}
use mathlib.Core.List.{List, [], ◌∷◌, ◌++◌}
use native.Mathlib.Omega.{arith}
use lib.Dec.{eqb}
use borrow.Author.Tests.{lt-leb}
use Rattle.text.specs.Limits.{max_open}
use Rattle.text.specs.Booleans.{choose, among}
use Rattle.text.specs.Words.{begins, push}
use Rattle.text.proofs.Booleans.{and_true, choose_false, choose_true}
use Rattle.token.specs.Table.{kind, start, end, is, label}
use Rattle.table.specs.declared.Join.{Join}
use Rattle.table.specs.declared.Join.TheVariants.{Seq, Choice}
use Rattle.table.specs.declared.Unary.{Unary}
use Rattle.table.specs.declared.Unary.TheVariants.{PosPred, NegPred, Opt, Rep, RepOnce, RepExact, RepMin, RepMax, RepMinMax, Push}
use Rattle.table.specs.Tree.{Span, Atom, text, range, peek_slice, plain, node_tag, Tree, leaf, one, two, Nowhere, aside, place_of, placed, ends_at, starts_at}
use Rattle.table.specs.Check.{fine_atom, fine_wrap, fine}
use Rattle.table.specs.Regroup.{untagged}
use Rattle.table.proofs.Regroups.{aside_placed}
use Rattle.forms.specs.declared.Form.{Form}
use Rattle.forms.specs.Printing.{unary_form, under}
use Rattle.structure.specs.declared.Level.{Level}
use Rattle.structure.specs.declared.Level.TheVariants.{Tagged, Plain}
use Rattle.structure.specs.Tokens.{spells}
use Rattle.structure.specs.Structure.{Parsed, got, refused, next, join, closed, prefixed, postfixed, in_tag, Postfix, post, no_post, postfix_at, posts_by, expr, term, signed, node, chain, posts, Run}
use Rattle.structure.proofs.Steps.{next_good, want_true, opened_false}
use Rattle.structure.proofs.Grammar.{expr_law, chain_law, term_law, signed_law, node_law, posts_law}
use Rattle.structure.proofs.Cycle.{finished}
use Rattle.promises.specs.Pieces.{Piece, tok, closes, enclosed, atom_pieces, unary_before, unary_after, separator, pieces, Stand}
use Rattle.structure.specs.Counts.{unary_counts, atom_counts, counted}
use Rattle.promises.specs.Round.{sight}
use Rattle.promises.proofs.Values.{yes, no, spells_by, label_is}
use Rattle.promises.proofs.Leaves.{gots, posted, posted_first, Ends, unposted, unsliced, leaf_of}
use Rattle.promises.proofs.Shapes.{cut, stand_as, Begins, begins_atom, begin_by}
use Rattle.promises.proofs.Shapes as Shapes
use Rattle.forms.specs.Levels.{own}
use Rattle.promises.specs.Marked.{unary_depth, depth, least, stands, Fits, put, back, whole}
use Rattle.promises.proofs.Backs.{back_free, back_put, goes_seq, goes_choice, enclosed_none, Closes, rooted_leaf, rooted_one, rooted_two}

-- ---- what a level sees of a tree

sight_leaf : (level : Level) (a : Atom) → leaf tt a ≡ sight level (leaf tt a)
unfolding untagged
sight_leaf Tagged a = refl
sight_leaf Plain a = refl

sight_one : (level : Level) (u : Unary) (x t : Tree Nowhere) → x ≡ sight level t → one tt (plain u) x ≡ sight level (one tt (plain u) t)
unfolding untagged
sight_one Tagged u x t e = ap (one tt (plain u)) e
sight_one Plain u x t e = ap (one tt (plain u)) e

sight_two : (level : Level) (j : Join) (a b : Tree Nowhere) → two tt j (sight level a) (sight level b) ≡ sight level (two tt j a b)
unfolding untagged
sight_two Tagged j a b = refl
sight_two Plain j a b = refl

sight_tag : (level : Level) (a : ℕ) (b c : List ℕ) (t : Tree Span) (u : Tree Nowhere) → b ≡ c → aside t ≡ sight level u → aside (in_tag level a b t) ≡ sight level (one tt (node_tag c) u)
unfolding untagged in_tag prefixed aside
sight_tag Tagged a b c t u e h = ap (λ (x : List ℕ). one tt (node_tag x) (aside t)) e ∙ ap (one tt (node_tag c)) h
sight_tag Plain a b c t u e h = h

-- ---- a root's place

aside_ends : (t : Tree Span) (z : ℕ) → aside (ends_at t z) ≡ aside t
unfolding ends_at
aside_ends t z = aside_placed _ t

aside_finished : (s : List ℕ) (at : ℕ) (t : Tree Span) → aside (finished s at t) ≡ aside t
unfolding finished starts_at
aside_finished s at t = go (is s at 6)
  where
    go : (b : Bool) → aside (choose b (λ u. placed (record { start = start s at; stop = (place_of t).stop }) t) (λ u. t)) ≡ aside t
    go true = aside_placed _ t
    go false = refl

-- nothing stands before what a postfix stands behind
pub unbefore : (u : Unary) → unary_form u ≡ Form.Postfix → (unary_before u ≡ []) × (unary_depth u ≡ 0)
unbefore PosPred h = let z : ◌≡◌ {A = ℕ} 0 1 = cc in absurd (omega arith)
unbefore NegPred h = let z : ◌≡◌ {A = ℕ} 0 1 = cc in absurd (omega arith)
unbefore Push h = let z : ◌≡◌ {A = ℕ} 0 1 = cc in absurd (omega arith)
unbefore Opt h = (refl, refl)
unbefore Rep h = (refl, refl)
unbefore RepOnce h = (refl, refl)
unbefore (RepExact n) h = (refl, refl)
unbefore (RepMin n) h = (refl, refl)
unbefore (RepMax n) h = (refl, refl)
unbefore (RepMinMax n m) h = (refl, refl)

module _ (level : Level) (s : List ℕ) where
  -- a reading that ends at n with the tree e
  pub record Reads (m : Parsed) (e : Tree Nowhere) (n : ℕ) : Type 0 where
    pub tree : Tree Span
    pub reads : m ≡ got tree n
    pub same : aside tree ≡ sight level e

  -- what a term does after its node t, which ends at n
  abbrev finish : ℕ → Tree Span → ℕ → Parsed
  finish at t n = next (Run level s (posts t n)) (λ v m. got (finished s at v) m)

  -- a chain so far, with one more link
  abbrev pub grown : Join → Option (Tree Span) → Tree Span → Tree Span
  grown j None t = t
  grown j (Some a) t = join j a t

  abbrev pub Matches : Option (Tree Span) → Option (Tree Nowhere) → Type 0
  Matches None None = Unit {0}
  Matches None (Some b) = ⊥
  Matches (Some a) None = ⊥
  Matches (Some a) (Some b) = aside a ≡ sight level b

  -- ---- the five levels: what was read from `at` to n, and how it begins

  -- 4: a node, postfixes may follow
  record NodeAt (o at n : ℕ) (e : Tree Nowhere) : Type 0 where
    tree : Tree Span
    goes : Run level s (signed o at) ≡ finish at tree n
    same : aside tree ≡ sight level e
    first : Begins s at

  -- 3
  record SignAt (o at n : ℕ) (e : Tree Nowhere) : Type 0 where
    tree : Tree Span
    goes : Run level s (signed o at) ≡ got tree n
    same : aside tree ≡ sight level e
    first : Begins s at

  -- 2
  record TermAt (o at n : ℕ) (e : Tree Nowhere) : Type 0 where
    tree : Tree Span
    goes : Run level s (term o at) ≡ got tree n
    same : aside tree ≡ sight level e
    first : is s at 11 ≡ false

  -- 1: the sequence so far, acc, and what it has become at n
  pub record SeqAt (o at n : ℕ) (c acc : Option (Tree Span)) (e : Tree Nowhere) : Type 0 where
    pub tree : Tree Span
    pub goes : next (Run level s (term o at)) (λ t m. Run level s (chain o c (grown Seq acc t) m)) ≡ Run level s (chain o c tree n)
    pub same : aside tree ≡ sight level e
    pub first : is s at 11 ≡ false

  -- 0: the choices so far, acc, and what they and the last sequence have become at n
  pub record ChoiceAt (o at n : ℕ) (acc : Option (Tree Span)) (e : Tree Nowhere) : Type 0 where
    pub choices : Option (Tree Span)
    pub last : Tree Span
    pub goes : next (Run level s (term o at)) (λ t m. Run level s (chain o acc t m)) ≡ Run level s (chain o choices last n)
    pub same : aside (closed choices last) ≡ sight level e
    pub first : is s at 11 ≡ false

  abbrev NodeOf : List Piece → ℕ → Tree Nowhere → Type 0
  NodeOf x d e = (o at n : ℕ) → Stand s at x n → o + d ≤ max_open → is s n 4 ≡ false → NodeAt o at n e

  abbrev SignOf : List Piece → ℕ → Tree Nowhere → Type 0
  SignOf x d e = (o at n : ℕ) → Stand s at x n → o + d ≤ max_open → Ends s n → SignAt o at n e

  abbrev TermOf : List Piece → ℕ → Tree Nowhere → Type 0
  TermOf x d e = (o at n : ℕ) → Stand s at x n → o + d ≤ max_open → Ends s n → TermAt o at n e

  abbrev pub SeqOf : List Piece → ℕ → (Option (Tree Nowhere) → Tree Nowhere) → Type 0
  SeqOf x d f = (o at n : ℕ) → Stand s at x n → o + d ≤ max_open → Ends s n → (c acc : Option (Tree Span)) (a : Option (Tree Nowhere)) → Matches acc a → SeqAt o at n c acc (f a)

  abbrev pub ChoiceOf : List Piece → ℕ → (Option (Tree Nowhere) → Tree Nowhere) → Type 0
  ChoiceOf x d f = (o at n : ℕ) → Stand s at x n → o + d ≤ max_open → Ends s n → (acc : Option (Tree Span)) (a : Option (Tree Nowhere)) → Matches acc a → ChoiceAt o at n acc (f a)

  -- ---- steps of the descent

  pub ends_at_lem : (n k : ℕ) → kind s n ≡ k → among (2 ∷ 4 ∷ 12 ∷ 13 ∷ 14 ∷ []) k ≡ false → Ends s n
  ends_at_lem n k e h = ap (among (2 ∷ 4 ∷ 12 ∷ 13 ∷ 14 ∷ [])) e ∙ h

  chain-ends : (o : ℕ) (c : Option (Tree Span)) (l : Tree Span) (m k : ℕ) → kind s m ≡ k → eqb k 10 ≡ false → eqb k 11 ≡ false → Run level s (chain o c l m) ≡ got (closed c l) m
  chain-ends o c l m k e h g = chain_law level s o c l m ∙ choose_false (is s m 10) _ _ (no s m k 10 e h) ∙ choose_false (is s m 11) _ _ (no s m k 11 e g)

  pub chain_seq : (o : ℕ) (c : Option (Tree Span)) (l : Tree Span) (m : ℕ) → kind s m ≡ 10
      → Run level s (chain o c l m) ≡ next (Run level s (term o (m + 1))) (λ t n. Run level s (chain o c (join Seq l t) n))
  chain_seq o c l m k = chain_law level s o c l m ∙ choose_true (is s m 10) _ _ (yes s m 10 k)

  pub chain_choice : (o : ℕ) (c : Option (Tree Span)) (l : Tree Span) (m : ℕ) → kind s m ≡ 11
      → Run level s (chain o c l m) ≡ next (Run level s (term o (m + 1))) (λ t n. Run level s (chain o (Some (closed c l)) t n))
  chain_choice o c l m k = chain_law level s o c l m ∙ choose_false (is s m 10) _ _ (no s m 11 10 k refl) ∙ choose_true (is s m 11) _ _ (yes s m 11 k)

  -- a node that no predicate stands before
  unsigned : (o at n : ℕ) (t : Tree Span) → is s at 8 ≡ false → is s at 9 ≡ false → Run level s (node o at) ≡ got t n → Run level s (signed o at) ≡ finish at t n
  unfolding finished
  unsigned o at n t a b e = signed_law level s o at ∙ choose_false (is s at 8) _ _ a ∙ choose_false (is s at 9) _ _ b ∙ next_good _ _ e

  posts_by_lem : (t : Tree Span) (n : ℕ) (p : Postfix) → postfix_at s n ≡ p → Run level s (posts t n) ≡ posts_by p (λ v m. Run level s (posts (postfixed (end s (m - 1)) v t) m)) (λ u. got t n)
  posts_by_lem t n p e = posts_law level s t n ∙ ap (λ (q : Postfix). posts_by q (λ v m. Run level s (posts (postfixed (end s (m - 1)) v t) m)) (λ u. got t n)) e

  finish-by : (at : ℕ) {m n : Parsed} → m ≡ n → next m (λ v m. got (finished s at v) m) ≡ next n (λ v m. got (finished s at v) m)
  finish-by at e = ap (λ (x : Parsed). next x (λ v m. got (finished s at v) m)) e

  join-sight : (q : Join) (x y : Tree Span) (x₀ y₀ : Tree Nowhere) → aside x ≡ sight level x₀ → aside y ≡ sight level y₀ → aside (join q x y) ≡ sight level (two tt q x₀ y₀)
  unfolding aside join
  join-sight q x y x₀ y₀ e h = ap (λ z. two tt q z (aside y)) e ∙ ap (two tt q (sight level x₀)) h ∙ sight_two level q x₀ y₀

  grown-same : (j : Join) (c : Option (Tree Span)) (a : Option (Tree Nowhere)) (t : Tree Span) (e : Tree Nowhere) → Matches c a → aside t ≡ sight level e → aside (grown j c t) ≡ sight level (put j a e)
  grown-same j None None t e m h = h
  grown-same j None (Some b) t e m h = absurd m
  grown-same j (Some c) None t e m h = absurd m
  grown-same j (Some c) (Some b) t e m h = join-sight j c t b e m h

  closed-grown : (c : Option (Tree Span)) (t : Tree Span) → closed c t ≡ grown Choice c t
  unfolding closed
  closed-grown None t = refl
  closed-grown (Some c) t = refl

  -- ---- from one level to the next below it

  module _ (x : List Piece) (d : ℕ) where
    sign-by : (e : Tree Nowhere) → NodeOf x d e → SignOf x d e
    sign-by e f o at n h l k =
        let r = f o at n h l (unsliced s n k) in
        record {
          tree = finished s at r.tree;
          goes = r.goes ∙ next_good _ _ (posts_by_lem r.tree n no_post (unposted s n k));
          same = aside_finished s at r.tree ∙ r.same;
          first = r.first;
        }

    term-by : (e : Tree Nowhere) → SignOf x d e → TermOf x d e
    term-by e f o at n h l k =
        let r = f o at n h l k in
        record { tree = r.tree; goes = term_law level s o at ∙ choose_false (is s at 19) _ _ r.first.0 ∙ r.goes; same = r.same; first = r.first.1 }

    seq-by : (e : Tree Nowhere) (f : Option (Tree Nowhere) → Tree Nowhere) → ((a : Option (Tree Nowhere)) → f a ≡ put Seq a e) → TermOf x d e → SeqOf x d f
    seq-by e f p g o at n h l k c acc a m =
        let r = g o at n h l k in
        record {
          tree = grown Seq acc r.tree;
          goes = next_good _ _ r.goes;
          same = grown-same Seq acc a r.tree e m r.same ∙ ap (sight level) (sym (p a));
          first = r.first;
        }

    choice-by : (e : Tree Nowhere) (g f : Option (Tree Nowhere) → Tree Nowhere) → g None ≡ e → ((a : Option (Tree Nowhere)) → f a ≡ put Choice a e) → SeqOf x d g → ChoiceOf x d f
    choice-by e g f q p r o at n h l k acc a m =
        let v = r o at n h l k acc None None tt in
        record {
          choices = acc;
          last = v.tree;
          goes = v.goes;
          same = ap aside (closed-grown acc v.tree) ∙ grown-same Choice acc a v.tree e m (v.same ∙ ap (sight level) q) ∙ ap (sight level) (sym (p a));
          first = v.first;
        }

    -- as an expression, before what ends it
    expr-by : (f : Option (Tree Nowhere) → Tree Nowhere) → ChoiceOf x d f → (o at n k : ℕ) → Stand s at x n → o + d ≤ max_open → kind s n ≡ k → eqb k 10 ≡ false → eqb k 11 ≡ false
        → among (2 ∷ 4 ∷ 12 ∷ 13 ∷ 14 ∷ []) k ≡ false → Reads (Run level s (expr o at)) (f None) n
    unfolding closed
    expr-by f g o at n k h l e p q i =
        let r = g o at n h l (ends_at_lem n k e i) None None tt in
        record { tree = closed r.choices r.last; reads = expr_law level s o at ∙ r.goes ∙ chain-ends o r.choices r.last n k e p q; same = r.same }

    -- in brackets
    node_by : (f : Option (Tree Nowhere) → Tree Nowhere) → ChoiceOf x d f → NodeOf (enclosed true x) (d + 1) (f None)
    node_by f g o at n h l _ =
        let c = Shapes.closed s at n x h in
        let r = expr-by f g (o + 1) (at + 1) c.stop 7 c.inner (omega arith) c.closing refl refl refl in
        record {
          tree = ends_at r.tree (end s c.stop);
          goes =
              unsigned o at n _ (no s at 6 8 c.opens refl) (no s at 6 9 c.opens refl)
              (node_law level s o at ∙ choose_true (is s at 6) _ _ (yes s at 6 c.opens) ∙ opened_false o s at _ (lt-leb max_open o (omega arith)) ∙ next_good _ _ r.reads
              ∙ want_true refused s c.stop 7 _ (yes s c.stop 7 c.closing) ∙ gots refl c.past);
          same = aside_ends r.tree (end s c.stop) ∙ r.same;
          first = begin_by s at 6 c.opens refl refl;
        }

  -- ---- a marked tree, at each level that it reaches

  pub record Good (m : Tree Bool) : Type 0 where
    node_of : 4 ≤ stands m → NodeOf (pieces m) (depth m) (whole m)
    sign_of : 3 ≤ stands m → SignOf (pieces m) (depth m) (whole m)
    term_of : 2 ≤ stands m → TermOf (pieces m) (depth m) (whole m)
    pub seq_of : 1 ≤ stands m → SeqOf (pieces m) (depth m) (λ a. back Seq a m)
    pub choice_of : ChoiceOf (pieces m) (depth m) (λ a. back Choice a m)

  module _ (m : Tree Bool) where
    good-choice : stands m ≡ 0 → ChoiceOf (pieces m) (depth m) (λ a. back Choice a m) → Good m
    good-choice e f = record {
      node_of = λ h. absurd (omega arith);
      sign_of = λ h. absurd (omega arith);
      term_of = λ h. absurd (omega arith);
      seq_of = λ h. absurd (omega arith);
      choice_of = f;
    }

    seq-choice : 1 ≤ stands m → SeqOf (pieces m) (depth m) (λ a. back Seq a m) → ChoiceOf (pieces m) (depth m) (λ a. back Choice a m)
    seq-choice h f = choice-by (pieces m) (depth m) (whole m) (λ a. back Seq a m) (λ a. back Choice a m) refl (back_put Choice m (goes_choice m h)) f

    good-seq : stands m ≡ 1 → SeqOf (pieces m) (depth m) (λ a. back Seq a m) → Good m
    good-seq e f = record {
      node_of = λ h. absurd (omega arith);
      sign_of = λ h. absurd (omega arith);
      term_of = λ h. absurd (omega arith);
      seq_of = λ h. f;
      choice_of = seq-choice (omega arith) f;
    }

    module _ (l : 2 ≤ stands m) (f : TermOf (pieces m) (depth m) (whole m)) where
      term-seq : SeqOf (pieces m) (depth m) (λ a. back Seq a m)
      term-seq = seq-by (pieces m) (depth m) (whole m) (λ a. back Seq a m) (back_put Seq m (goes_seq m l)) f

      good-term : (4 ≤ stands m → NodeOf (pieces m) (depth m) (whole m)) → (3 ≤ stands m → SignOf (pieces m) (depth m) (whole m)) → Good m
      good-term g h = record { node_of = g; sign_of = h; term_of = λ k. f; seq_of = λ k. term-seq; choice_of = seq-choice (omega arith) term-seq }

    good-sign : stands m ≡ 3 → SignOf (pieces m) (depth m) (whole m) → Good m
    good-sign e f = good-term (omega arith) (term-by (pieces m) (depth m) (whole m) f) (λ h. absurd (omega arith)) (λ h. f)

    good-node : 4 ≤ stands m → NodeOf (pieces m) (depth m) (whole m) → Good m
    good-node e f =
        let g = sign-by (pieces m) (depth m) (whole m) f in
        good-term (omega arith) (term-by (pieces m) (depth m) (whole m) g) (λ h. f) (λ h. g)

  -- brackets around a good tree
  good-closed : (m n : Tree Bool) → Closes m n → Good m → Good n
  good-closed m n c g = good-node n c.high
      (λ o at i h l k.
      let y = c.deep in
      let r = node_by (pieces m) (depth m) (λ a. back Choice a m) g.choice_of o at i (stand_as s c.shape at i h) (omega arith) k in
      record { tree = r.tree; goes = r.goes; same = r.same ∙ ap (sight level) (back_free Choice m ∙ sym c.same); first = r.first })

  -- ---- leaves

  module _ (a : Atom) (f : fine_atom a ≡ true) (c : atom_counts a ≡ true) where
    node_leaf : NodeOf (pieces (leaf false a)) (depth (leaf false a)) (whole (leaf false a))
    unfolding pieces depth back
    node_leaf o at n h d l =
        let g = stand_as s (enclosed_none (atom_pieces a)) at n h in
        let r = leaf_of s o at n a f c g (omega arith) l in
        record {
          tree = r.tree;
          goes =
              unsigned o at n r.tree r.unsigned.0 r.unsigned.1
              (node_law level s o at ∙ choose_false (is s at 6) _ _ r.unopened ∙ choose_false (spells push s at) _ _ r.unpushed ∙ r.goes);
          same = r.same ∙ sight_leaf level a;
          first = begins_atom s a at n g;
        }

    leaf-high : 4 ≤ stands (leaf false a)
    leaf-high = go a
      where
        go : (a : Atom) → 4 ≤ stands (leaf false a)
        go (text k b) = omega arith
        go (range x y) = omega arith
        go (peek_slice x e) = omega arith

    good-leaf : (b : Bool) → Good (leaf b a)
    good-leaf b = rooted_leaf good-closed b a (good-node (leaf false a) leaf-high node_leaf)

  -- ---- one child

  stand-at : (at : ℕ) (x : List Piece) {m n : ℕ} → Stand s at x m → m ≡ n → Stand s at x n
  stand-at at x h e = subst (λ (i : ℕ). Stand s at x i) e h

  -- x behind the first of two lists of pieces, the second of which is none
  pub alone : (x : List Piece) (at n : ℕ) → Stand s at (x ++ []) n → Stand s at x n
  alone x at n h = let c = cut s x [] at n h in stand-at at x c.1 c.2

  module _ (t : Tree Bool) (g : Good t) where
    module _ (u : Unary) (f : unary_form u ≡ Form.Postfix) (c : unary_counts u ≡ true) (k : least (under (unary_form u)) ≤ stands t) where
      post-high : 4 ≤ stands (one false (plain u) t)
      post-high = let e = ap own f in omega arith

      node-post : NodeOf (pieces (one false (plain u) t)) (depth (one false (plain u) t)) (whole (one false (plain u) t))
      unfolding pieces depth back postfixed aside
      node-post o at n h d l =
          let p = unbefore u f in
          let v = p.1 in
          let w = ap (λ (z : Form). least (under z)) f in
          let i = cut s (pieces t) (unary_after u) at n (stand_as s (enclosed_none _ ∙ ap (λ (z : List Piece). z ++ (pieces t ++ unary_after u)) p.0) at n h) in
          let r = g.node_of (omega arith) o at i.0 i.1 (omega arith) (posted_first s u f i.0 n i.2) in
          record {
            tree = postfixed (end s (n - 1)) u r.tree;
            goes = r.goes ∙ finish-by at (posts_by_lem r.tree i.0 (post u n) (posted s u f c i.0 n i.2));
            same = sight_one level u (aside r.tree) (whole t) r.same;
            first = r.first;
          }

      good-post : Good (one false (plain u) t)
      good-post = good-node (one false (plain u) t) post-high node-post

    -- a predicate: its token is of the kind k
    module _ (u : Unary) (k : ℕ) (w : List ℕ) (e : stands (one false (plain u) t) ≡ 3) (x : pieces (one false (plain u) t) ≡ tok k w ∷ (pieces t ++ [])) (y : depth (one false (plain u) t) ≡ depth t)
        (b : (eqb k 19 ≡ false) × (eqb k 11 ≡ false))
        (law : (o at : ℕ) → kind s at ≡ k → Run level s (signed o at) ≡ next (Run level s (signed o (at + 1))) (λ t n. got (prefixed (start s at) (plain u) t) n)) where
      good-pred : 3 ≤ stands t → Good (one false (plain u) t)
      unfolding back prefixed aside
      good-pred l = good-sign (one false (plain u) t) e
          (λ o at n h d i.
          let a = stand_as s x at n h in
          let r = g.sign_of l o (at + 1) n (alone (pieces t) (at + 1) n a.2) (omega arith) i in
          record {
            tree = prefixed (start s at) (plain u) r.tree;
            goes = law o at a.0 ∙ next_good _ _ r.goes;
            same = sight_one level u (aside r.tree) (whole t) r.same;
            first = begin_by s at k a.0 b.0 b.1;
          })

    node-push : NodeOf (pieces (one false (plain Push) t)) (depth (one false (plain Push) t)) (whole (one false (plain Push) t))
    unfolding pieces depth back begins prefixed aside
    node-push o at n h d l =
        let a = stand_as s (enclosed_none _) at n h in
        let i = cut s (pieces t) (closes ∷ []) (at + 1 + 1) n a.2.2 in
        let r = expr-by (pieces t) (depth t) (λ c. back Choice c t) g.choice_of (o + 1) (at + 1 + 1) i.0 7 i.1 (omega arith) i.2.0 refl refl refl in
        record {
          tree = prefixed (start s at) (plain Push) r.tree;
          goes =
              unsigned o at n _ (no s at 18 8 a.0 refl) (no s at 18 9 a.0 refl)
              (node_law level s o at ∙ choose_false (is s at 6) _ _ (no s at 18 6 a.0 refl) ∙ choose_true (spells push s at) _ _ (spells_by s at a.0 push a.1 push)
              ∙ want_true refused s (at + 1) 6 _ (yes s (at + 1) 6 a.2.0) ∙ opened_false o s (at + 1) _ (lt-leb max_open o (omega arith)) ∙ next_good _ _ r.reads
              ∙ want_true refused s i.0 7 _ (yes s i.0 7 i.2.0) ∙ gots refl i.2.2);
          same = sight_one level Push (aside r.tree) (whole t) (r.same ∙ ap (sight level) (back_free Choice t));
          first = begin_by s at 18 a.0 refl refl;
        }

    good-tag : (b : List ℕ) → 3 ≤ stands t → Good (one false (node_tag b) t)
    unfolding pieces depth back
    good-tag b l = good-term (one false (node_tag b) t) (omega arith)
        (λ o at n h d i.
        let a = stand_as s (enclosed_none _) at n h in
        let r = g.sign_of l o (at + 1 + 1) n (alone (pieces t) (at + 1 + 1) n a.2.2) (omega arith) i in
        record {
          tree = in_tag level (start s at) (label s at) r.tree;
          goes = term_law level s o at ∙ choose_true (is s at 19) _ _ (yes s at 19 a.0) ∙ want_true refused s (at + 1) 1 _ (yes s (at + 1) 1 a.2.0) ∙ next_good _ _ r.goes;
          same = sight_tag level (start s at) (label s at) b r.tree (whole t) (label_is s at b a.1) r.same;
          first = no s at 19 11 a.0 refl;
        })
        (λ h. absurd (omega arith)) (λ h. absurd (omega arith))

  pub pos_law : (o at : ℕ) → kind s at ≡ 8 → Run level s (signed o at) ≡ next (Run level s (signed o (at + 1))) (λ t n. got (prefixed (start s at) (plain PosPred) t) n)
  pos_law o at k = signed_law level s o at ∙ choose_true (is s at 8) _ _ (yes s at 8 k)

  pub neg_law : (o at : ℕ) → kind s at ≡ 9 → Run level s (signed o at) ≡ next (Run level s (signed o (at + 1))) (λ t n. got (prefixed (start s at) (plain NegPred) t) n)
  neg_law o at k = signed_law level s o at ∙ choose_false (is s at 8) _ _ (no s at 9 8 k refl) ∙ choose_true (is s at 9) _ _ (yes s at 9 k)

  good-unary : (u : Unary) (t : Tree Bool) → Good t → unary_counts u ≡ true → least (under (unary_form u)) ≤ stands t → Good (one false (plain u) t)
  unfolding pieces depth
  good-unary PosPred t g c l = good-pred t g PosPred 8 (38 ∷ []) refl (enclosed_none _) (omega arith) (refl, refl) pos_law l
  good-unary NegPred t g c l = good-pred t g NegPred 9 (33 ∷ []) refl (enclosed_none _) (omega arith) (refl, refl) neg_law l
  good-unary Push t g c l = good-node (one false (plain Push) t) (omega arith) (node-push t g)
  good-unary Opt t g c l = good-post t g Opt refl c l
  good-unary Rep t g c l = good-post t g Rep refl c l
  good-unary RepOnce t g c l = good-post t g RepOnce refl c l
  good-unary (RepExact n) t g c l = good-post t g (RepExact n) refl c l
  good-unary (RepMin n) t g c l = good-post t g (RepMin n) refl c l
  good-unary (RepMax n) t g c l = good-post t g (RepMax n) refl c l
  good-unary (RepMinMax n m) t g c l = good-post t g (RepMinMax n m) refl c l

  -- ---- two children

  seq-then : {o at i n : ℕ} {c acc : Option (Tree Span)} {e f : Tree Nowhere} (p : SeqAt o at i c acc e) → kind s i ≡ 10 → SeqAt o (i + 1) n c (Some p.tree) f → SeqAt o at n c acc f
  seq-then {o} {at} {i} {n} {c} p k q = record { tree = q.tree; goes = p.goes ∙ chain_seq o c p.tree i k ∙ q.goes; same = q.same; first = p.first }

  choice-then : {o at i n : ℕ} {acc : Option (Tree Span)} {e f : Tree Nowhere} (p : ChoiceAt o at i acc e) → kind s i ≡ 11 → ChoiceAt o (i + 1) n (Some (closed p.choices p.last)) f
      → ChoiceAt o at n acc f
  choice-then {o} {at} {i} p k q =
      record { choices = q.choices; last = q.last; goes = p.goes ∙ chain_choice o p.choices p.last i k ∙ q.goes; same = q.same; first = p.first }

  module _ (x y : Tree Bool) (gx : Good x) (gy : Good y) where
    good-seqs : 1 ≤ stands x → 1 ≤ stands y → Good (two false Seq x y)
    unfolding pieces depth back
    good-seqs lx ly = good-seq (two false Seq x y) refl
        (λ o at n h d i c acc a m.
        let w = cut s (pieces x) (separator Seq ++ pieces y) at n (stand_as s (enclosed_none _) at n h) in
        let p = gx.seq_of lx o at w.0 w.1 (omega arith) (ends_at_lem w.0 10 w.2.0 refl) c acc a m in
        seq-then p w.2.0 (gy.seq_of ly o (w.0 + 1) n w.2.2 (omega arith) i c (Some p.tree) (Some (back Seq a x)) p.same))

    good-choices : Good (two false Choice x y)
    unfolding pieces depth back
    good-choices = good-choice (two false Choice x y) refl
        (λ o at n h d i acc a m.
        let w = cut s (pieces x) (separator Choice ++ pieces y) at n (stand_as s (enclosed_none _) at n h) in
        let p = gx.choice_of o at w.0 w.1 (omega arith) (ends_at_lem w.0 11 w.2.0 refl) acc a m in
        choice-then p w.2.0 (gy.choice_of o (w.0 + 1) n w.2.2 (omega arith) i (Some (closed p.choices p.last)) (Some (back Choice a x)) p.same))

  -- ---- every tree

  pub every : (m : Tree Bool) → Fits m → fine m ≡ true → counted m ≡ true → Good m
  unfolding Fits fine counted
  every (leaf b a) k f c = good-leaf a f c b
  every (one b (plain u) t) k f c = let d = and_true (unary_counts u) (counted t) c in rooted_one good-closed b (plain u) t (good-unary u t (every t k.1 f d.1) d.0 k.0)
  every (one b (node_tag n) t) k f c = rooted_one good-closed b (node_tag n) t (good-tag t (every t k.1 (and_true (fine_wrap (node_tag n)) (fine t) f).1 c) n k.0)
  every (two b Seq x y) k f c =
      let p = and_true (fine x) (fine y) f in
      let q = and_true (counted x) (counted y) c in
      rooted_two good-closed b Seq x y (good-seqs x y (every x k.2 p.0 q.0) (every y k.3 p.1 q.1) k.0 k.1)
  every (two b Choice x y) k f c =
      let p = and_true (fine x) (fine y) f in
      let q = and_true (counted x) (counted y) c in
      rooted_two good-closed b Choice x y (good-choices x y (every x k.2 p.0 q.0) (every y k.3 p.1 q.1))

  -- a marked tree before `}`: what is read, and that no `|` begins it
  pub record Read (at n : ℕ) (e : Tree Nowhere) : Type 0 where
    pub read : Reads (Run level s (expr 0 at)) e n
    pub first : is s at 11 ≡ false

  pub marked_read : (m : Tree Bool) → Fits m → fine m ≡ true → counted m ≡ true → depth m ≤ max_open → (at n : ℕ) → Stand s at (pieces m) n → kind s n ≡ 3 → Read at n (whole m)
  marked_read m k f c d at n h e =
      let g = (every m k f c).choice_of in
      let r = expr-by (pieces m) (depth m) (λ a. back Choice a m) g 0 at n 3 h (omega arith) e refl refl refl in
      record {
        read = record { tree = r.tree; reads = r.reads; same = r.same ∙ ap (sight level) (back_free Choice m) };
        first = (g 0 at n h (omega arith) (ends_at_lem n 3 e refl) None None tt).first;
      }
