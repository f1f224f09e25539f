-- Marked trees that are too deep where they stand: the descent refuses the first `(` that makes more open than the limit.
-- What stands left of it is read, as Descent says; how many are open where a part begins is known from Depths (`Sinks`).
use Rattle.std.specs.Prelude.{Option, Some, None}
use Prim.Native.Nat.{ℕ, zero, suc, ◌+◌, ◌≤◌, ◌<◌}
use mathlib.Core.Path.{◌≡◌, refl, ap, ◌∙◌}
use mathlib.Core.Bool.{Bool, true, false}
use mathlib.Core.List.{List, [], ◌∷◌, ◌++◌}
use native.Mathlib.Omega.{arith}
use native.Mathlib.Decide.{dec_le}
use lib.Dec.{leb, eqb}
use lib.ListN.{length}
use borrow.Author.Tests.{le-leb, lt-leb}
use Rattle.text.specs.Limits.{max_open}
use Rattle.text.specs.Words.{begins, push}
use Rattle.text.proofs.Booleans.{and_true, choose_false, choose_true}
use Rattle.token.specs.Table.{toks, kind, start, is}
use Rattle.token.specs.Tokens.{push_literal}
use Rattle.table.specs.declared.Join.TheVariants.{Seq, Choice}
use Rattle.table.specs.declared.Unary.{Unary}
use Rattle.table.specs.declared.Unary.TheVariants.{PosPred, NegPred, Opt, Rep, RepOnce, RepExact, RepMin, RepMax, RepMinMax, Push}
use Rattle.table.specs.declared.Sort.TheVariants.{Str, Insens, Ident, PushLiteral}
use Rattle.table.specs.Tree.{Span, Atom, text, range, peek_slice, plain, node_tag, Tree, leaf, one, two, Nowhere, Rule}
use Rattle.table.specs.Check.{fine_wrap, fine, fine_rule, fine_rules}
use Rattle.table.specs.Check as Check
use Rattle.forms.specs.declared.Form.{Form}
use Rattle.forms.specs.Printing.{unary_form, under}
use Rattle.structure.specs.declared.Level.{Level}
use Rattle.structure.specs.declared.Refusal.{Refusal}
use Rattle.structure.specs.declared.Why.TheVariants.{TooDeep}
use Rattle.structure.specs.Refusals.{because}
use Rattle.structure.specs.Tokens.{spells}
use Rattle.structure.specs.Structure.{Parsed, got, refused, next, opened, prefixed, pushed, leaf_at, expr, term, signed, node, chain, Run, past_bar, unruled, with_rule, Ruling, no_rule, rule_of, then_rules, rule_from, rules_up_to, closed, grammar}
use Rattle.structure.proofs.Steps.{inside_is, next_bad, want_true, opened_false, opened_true}
use Rattle.structure.proofs.Grammar.{expr_law, term_law, signed_law, node_law}
use Rattle.structure.proofs.Rules.{rule_then}
use Rattle.promises.specs.Open.{open_at, most_to, FirstOver}
use Rattle.promises.specs.Pieces.{Piece, gap, tok, closes, rbrace, space, atom_pieces, unary_after, separator, pieces, mark_pieces, rule_pieces, rules_pieces, Stand}
use Rattle.promises.specs.Marked.{depth, depths, least, stands, Fits, back, FitRules}
use Rattle.structure.specs.Counts.{unary_counts, counted, counted_rules}
use Rattle.promises.proofs.Values as Values
use Rattle.promises.proofs.Values.{spells_by}
use Rattle.promises.proofs.Shapes.{cut, stand_as, Begins, begin_by}
use Rattle.promises.proofs.Shapes as Shapes
use Rattle.promises.proofs.Backs.{enclosed_none, Closes, rooted_leaf, rooted_one, rooted_two}
use Rattle.promises.proofs.Depths.{Rises, open_most, past_open, past_other, rises_tree, rises_mark, rises_rule}
use Rattle.promises.proofs.Descent.{Matches, grown, Good, every, unbefore, ends_at_lem, chain_seq, chain_choice, pos_law, neg_law, alone}
use Rattle.promises.proofs.Rules.{braced, rule_on, marked, named, rule_opens, rule_of_lem, rules_on, grammar_is}

-- d more are within the limit, or not
by_side : {P : Type 0} (o d : ℕ) → (o + d ≤ max_open → P) → (max_open < o + d → P) → P
by_side {P} o d f g = go (dec_le (o + d) max_open)
  where
    go : Dec (o + d ≤ max_open) → P
    go (yes l) = f l
    go (no l) = g (omega arith)

module _ (s : List ℕ) where
  -- refused at the first bracket too many
  pub record Deep {A : Type 0} (fail : Refusal → A) (m : A) : Type 0 where
    pub at : ℕ
    pub first : FirstOver s max_open at
    pub refuses : m ≡ fail (because TooDeep (start s at))

  deep-by : {A : Type 0} {fail : Refusal → A} {m n : A} → m ≡ n → Deep fail n → Deep fail m
  deep-by e d = record { at = d.at; first = d.first; refuses = e ∙ d.refuses }

  deep-next : {m : Parsed} (f : Tree Span → ℕ → Parsed) → Deep refused m → Deep refused (next m f)
  deep-next {m} f d = record { at = d.at; first = d.first; refuses = next_bad m f d.refuses }

  -- o are open at a token, never too many before it, and d more are
  pub record Sinks (o d at : ℕ) : Type 0 where
    pub now : open_at s at ≡ o
    pub before : most_to s at ≤ max_open
    pub over : max_open < o + d

  module _ {o d at : ℕ} where
    sinks-low : Sinks o d at → o ≤ max_open
    sinks-low h = omega (arith, open_most s at)

    -- for more or fewer that are too many too
    sinks-as : {e : ℕ} → max_open < o + e → Sinks o d at → Sinks o e at
    sinks-as l h = record { now = h.now; before = h.before; over = l }

    -- behind what isn't too deep
    sinks-over : {e f i : ℕ} → Rises s at i e → o + e ≤ max_open → max_open < o + f → Sinks o d at → Sinks o f i
    sinks-over r l m h = record { now = r.level ∙ h.now; before = omega (arith, r.most, h.now, h.before); over = m }

    sinks-past : (k : ℕ) → kind s at ≡ k → eqb k 6 ≡ false → eqb k 7 ≡ false → Sinks o d at → Sinks o d (at + 1)
    sinks-past k e p q h =
        let (a, b) = past_other s at k e p q in
        record { now = a ∙ h.now; before = omega (arith, b, h.before); over = h.over }

    sinks_in : kind s at ≡ 6 → o < max_open → Sinks o (d + 1) at → Sinks (o + 1) d (at + 1)
    sinks_in k l h =
        let (a, b) = past_open s at k in
        record { now = omega (arith, h.now); before = omega (arith, b, h.now, h.before); over = omega (arith, h.over) }

  -- a `(` that is one too many
  opened-full : {o d j : ℕ} (f : Unit {0} → Parsed) → kind s j ≡ 6 → Sinks o d j → max_open ≤ o → Deep refused (opened o s j f)
  opened-full {o} {d} {j} f k h l = record {
    at = j;
    first = record { opens = Values.yes s j 6 k; full = omega (arith, h.now, sinks-low h); before = h.before };
    refuses = opened_true o s j f (le-leb max_open o l);
  }

  -- a `(` that is one too many, or what stands behind it is too deep
  opened-deep : (o d j : ℕ) (m : Parsed) (f : Tree Span → ℕ → Parsed) → kind s j ≡ 6 → Sinks o (d + 1) j → (Sinks (o + 1) d (j + 1) → Deep refused m) → Deep refused (opened o s j (λ u. next m f))
  opened-deep o d j m f k h g = by_side o 1 (λ l. deep-by (opened_false o s j _ (lt-leb max_open o (omega arith))) (deep-next f (g (sinks_in k (omega arith) h)))) (λ l. opened-full _ k h (omega arith))

module _ (level : Level) (s : List ℕ) where
  -- ---- the levels of the grammar, and how what is refused begins

  abbrev SignDeep : List Piece → ℕ → Type 0
  SignDeep x d = (o at n : ℕ) → Stand s at x n → Sinks s o d at → Begins s at × Deep s refused (Run level s (signed o at))

  abbrev TermDeep : List Piece → ℕ → Type 0
  TermDeep x d = (o at n : ℕ) → Stand s at x n → Sinks s o d at → (is s at 11 ≡ false) × Deep s refused (Run level s (term o at))

  abbrev SeqDeep : List Piece → ℕ → Type 0
  SeqDeep x d =
      (o at n : ℕ) → Stand s at x n → Sinks s o d at → (c acc : Option (Tree Span)) (a : Option (Tree Nowhere)) → Matches level s acc a
      → (is s at 11 ≡ false) × Deep s refused (next (Run level s (term o at)) (λ t m. Run level s (chain o c (grown level s Seq acc t) m)))

  abbrev ChoiceDeep : List Piece → ℕ → Type 0
  ChoiceDeep x d =
      (o at n : ℕ) → Stand s at x n → Sinks s o d at → (acc : Option (Tree Span)) (a : Option (Tree Nowhere)) → Matches level s acc a
      → (is s at 11 ≡ false) × Deep s refused (next (Run level s (term o at)) (λ t m. Run level s (chain o acc t m)))

  record Sunk (m : Tree Bool) : Type 0 where
    sign_of : 3 ≤ stands m → SignDeep (pieces m) (depth m)
    term_of : 2 ≤ stands m → TermDeep (pieces m) (depth m)
    seq_of : 1 ≤ stands m → SeqDeep (pieces m) (depth m)
    choice_of : ChoiceDeep (pieces m) (depth m)

  -- ---- from one level to the next below it

  module _ (m : Tree Bool) where
    sunk-choice : stands m ≡ 0 → ChoiceDeep (pieces m) (depth m) → Sunk m
    sunk-choice e f = record { sign_of = λ h. absurd (omega arith); term_of = λ h. absurd (omega arith); seq_of = λ h. absurd (omega arith); choice_of = f }

    seq-choice : SeqDeep (pieces m) (depth m) → ChoiceDeep (pieces m) (depth m)
    seq-choice f o at n h k acc a e = f o at n h k acc None None tt

    sunk-seq : stands m ≡ 1 → SeqDeep (pieces m) (depth m) → Sunk m
    sunk-seq e f = record { sign_of = λ h. absurd (omega arith); term_of = λ h. absurd (omega arith); seq_of = λ h. f; choice_of = seq-choice f }

    sunk-term : TermDeep (pieces m) (depth m) → (3 ≤ stands m → SignDeep (pieces m) (depth m)) → Sunk m
    sunk-term f g =
        let q : SeqDeep (pieces m) (depth m) = λ o at n h k c acc a e. ((f o at n h k).0, deep-next s _ (f o at n h k).1) in
        record { sign_of = g; term_of = λ h. f; seq_of = λ h. q; choice_of = seq-choice q }

    sunk-sign : SignDeep (pieces m) (depth m) → Sunk m
    sunk-sign f = sunk-term
        (λ o at n h k. let r = f o at n h k in (r.0.1, deep-by s (term_law level s o at ∙ choose_false (is s at 19) _ _ r.0.0) r.1)) (λ h. f)

  -- as an expression
  expr-deep : (m : Tree Bool) → Sunk m → (o at n : ℕ) → Stand s at (pieces m) n → Sinks s o (depth m) at → (is s at 11 ≡ false) × Deep s refused (Run level s (expr o at))
  expr-deep m f o at n h k = let r = f.choice_of o at n h k None None tt in (r.0, deep-by s (expr_law level s o at) r.1)

  -- a node that no predicate stands before
  unsigned : (o at : ℕ) → is s at 8 ≡ false → is s at 9 ≡ false → Deep s refused (Run level s (node o at)) → Deep s refused (Run level s (signed o at))
  unsigned o at a b d = deep-by s (signed_law level s o at ∙ choose_false (is s at 8) _ _ a ∙ choose_false (is s at 9) _ _ b) (deep-next s _ d)

  -- brackets around a tree
  sunk-closed : (m n : Tree Bool) → Closes m n → Sunk m → Sunk n
  sunk-closed m n c f = sunk-sign n
      (λ o at i h k.
      let y = c.deep in
      let e = Shapes.closed s at i (pieces m) (stand_as s c.shape at i h) in
      let q = e.opens in (
        begin_by s at 6 q refl refl,
        unsigned o at (Values.no s at 6 8 q refl) (Values.no s at 6 9 q refl)
            (deep-by s (node_law level s o at ∙ choose_true (is s at 6) _ _ (Values.yes s at 6 q))
            (opened-deep s o (depth m) at _ _ q (sinks-as s (omega (arith, k.over)) k) (λ z. (expr-deep m f (o + 1) (at + 1) e.stop e.inner z).1))),
      ))

  -- ---- leaves

  no_deeper : {o d at : ℕ} {P : Type 0} → d ≡ 0 → Sinks s o d at → P
  no_deeper e k = absurd (omega (arith, k.over, sinks-low s k))

  sunk-leaf : (a : Atom) → Sunk (leaf false a)
  unfolding pieces depth leaf_at pushed begins
  sunk-leaf a = sunk-sign (leaf false a) (λ o at n h k. go a o at n (stand_as s (enclosed_none (atom_pieces a)) at n h) k)
    where
      go : (a : Atom) (o at n : ℕ) → Stand s at (atom_pieces a) n → Sinks s o (depth (leaf false a)) at → Begins s at × Deep s refused (Run level s (signed o at))
      go (text Str b) o at n h k = no_deeper (omega arith) k
      go (text Insens b) o at n h k = no_deeper (omega arith) k
      go (text Ident b) o at n h k = no_deeper (omega arith) k
      go (range x y) o at n h k = no_deeper (omega arith) k
      go (peek_slice x e) o at n h k = no_deeper (omega arith) k
      go (text PushLiteral b) o at n h k = (
        begin_by s at 18 h.0 refl refl,
        unsigned o at (Values.no s at 18 8 h.0 refl) (Values.no s at 18 9 h.0 refl)
            (deep-by s
            (node_law level s o at ∙ choose_false (is s at 6) _ _ (Values.no s at 18 6 h.0 refl) ∙ choose_false (spells push s at) _ _ (spells_by s at h.0 push_literal h.1 push)
            ∙ choose_true (spells push_literal s at) _ _ (spells_by s at h.0 push_literal h.1 push_literal) ∙ want_true refused s (at + 1) 6 _ (Values.yes s (at + 1) 6 h.2.0))
            (opened-full s _ h.2.0 (sinks-past s 18 h.0 refl refl k) (omega (arith, k.over)))),
      )

  -- ---- one child

  module _ (t : Tree Bool) (g : Sunk t) where
    sunk-post : (u : Unary) → unary_form u ≡ Form.Postfix → least (under (unary_form u)) ≤ stands t → Sunk (one false (plain u) t)
    unfolding pieces depth
    sunk-post u f l = sunk-sign (one false (plain u) t)
        (λ o at n h k.
        let p = unbefore u f in
        let v = p.1 in
        let w = ap (λ (z : Form). least (under z)) f in
        let i = cut s (pieces t) (unary_after u) at n (stand_as s (enclosed_none _ ∙ ap (λ (z : List Piece). z ++ (pieces t ++ unary_after u)) p.0) at n h) in
        g.sign_of (omega arith) o at i.0 i.1 (sinks-as s (omega (arith, k.over)) k))

    -- a predicate: its token is of the kind k
    sunk-pred : (u : Unary) (k : ℕ) (w : List ℕ) → pieces (one false (plain u) t) ≡ tok k w ∷ (pieces t ++ []) → depth (one false (plain u) t) ≡ depth t → (eqb k 6 ≡ false) × (eqb k 7 ≡ false) × (eqb k 19 ≡ false) × (eqb k 11 ≡ false)
        → ((o at : ℕ) → kind s at ≡ k → Run level s (signed o at) ≡ next (Run level s (signed o (at + 1))) (λ t n. got (prefixed (start s at) (plain u) t) n)) → 3 ≤ stands t → Sunk (one false (plain u) t)
    sunk-pred u k w x y b law l = sunk-sign (one false (plain u) t)
        (λ o at n h q.
        let a = stand_as s x at n h in
        let r = g.sign_of l o (at + 1) n (alone level s (pieces t) (at + 1) n a.2) (sinks-past s k a.0 b.0 b.1 (sinks-as s (omega (arith, q.over)) q)) in
        (begin_by s at k a.0 b.2 b.3, deep-by s (law o at a.0) (deep-next s _ r.1)))

    sunk-push : Sunk (one false (plain Push) t)
    unfolding pieces depth begins
    sunk-push = sunk-sign (one false (plain Push) t)
        (λ o at n h k.
        let a = stand_as s (enclosed_none _) at n h in
        let i = cut s (pieces t) (closes ∷ []) (at + 1 + 1) n a.2.2 in (
          begin_by s at 18 a.0 refl refl,
          unsigned o at (Values.no s at 18 8 a.0 refl) (Values.no s at 18 9 a.0 refl)
              (deep-by s
              (node_law level s o at ∙ choose_false (is s at 6) _ _ (Values.no s at 18 6 a.0 refl) ∙ choose_true (spells push s at) _ _ (spells_by s at a.0 push a.1 push)
              ∙ want_true refused s (at + 1) 6 _ (Values.yes s (at + 1) 6 a.2.0))
              (opened-deep s o (depth t) (at + 1) _ _ a.2.0 (sinks-past s 18 a.0 refl refl (sinks-as s (omega (arith, k.over)) k)) (λ z. (expr-deep t g (o + 1) (at + 1 + 1) i.0 i.1 z).1))),
        ))

    sunk-tag : (b : List ℕ) → 3 ≤ stands t → Sunk (one false (node_tag b) t)
    unfolding pieces depth
    sunk-tag b l = sunk-term (one false (node_tag b) t)
        (λ o at n h k.
        let a = stand_as s (enclosed_none _) at n h in
        let z = sinks-past s 1 a.2.0 refl refl (sinks-past s 19 a.0 refl refl (sinks-as s (omega (arith, k.over)) k)) in
        let r = g.sign_of l o (at + 1 + 1) n (alone level s (pieces t) (at + 1 + 1) n a.2.2) z in (
          Values.no s at 19 11 a.0 refl,
          deep-by s (term_law level s o at ∙ choose_true (is s at 19) _ _ (Values.yes s at 19 a.0) ∙ want_true refused s (at + 1) 1 _ (Values.yes s (at + 1) 1 a.2.0)) (deep-next s _ r.1),
        ))
        (λ h. absurd (omega arith))

  sunk-unary : (u : Unary) (t : Tree Bool) → Sunk t → least (under (unary_form u)) ≤ stands t → Sunk (one false (plain u) t)
  unfolding pieces depth
  sunk-unary PosPred t g l = sunk-pred t g PosPred 8 (38 ∷ []) (enclosed_none _) (omega arith) (refl, refl, refl, refl) (pos_law level s) l
  sunk-unary NegPred t g l = sunk-pred t g NegPred 9 (33 ∷ []) (enclosed_none _) (omega arith) (refl, refl, refl, refl) (neg_law level s) l
  sunk-unary Push t g l = sunk-push t g
  sunk-unary Opt t g l = sunk-post t g Opt refl l
  sunk-unary Rep t g l = sunk-post t g Rep refl l
  sunk-unary RepOnce t g l = sunk-post t g RepOnce refl l
  sunk-unary (RepExact n) t g l = sunk-post t g (RepExact n) refl l
  sunk-unary (RepMin n) t g l = sunk-post t g (RepMin n) refl l
  sunk-unary (RepMax n) t g l = sunk-post t g (RepMax n) refl l
  sunk-unary (RepMinMax n m) t g l = sunk-post t g (RepMinMax n m) refl l

  -- ---- two children

  module _ (x y : Tree Bool) (gx : Good level s x) (fx : Sunk x) (fy : Sunk y) where
    sunk-seqs : 1 ≤ stands x → 1 ≤ stands y → Sunk (two false Seq x y)
    unfolding pieces depth back
    sunk-seqs lx ly = sunk-seq (two false Seq x y) refl
        (λ o at n h k c acc a m.
        let w = cut s (pieces x) (separator Seq ++ pieces y) at n (stand_as s (enclosed_none _) at n h) in
        by_side o (depth x)
        (λ l.
        let p = gx.seq_of lx o at w.0 w.1 l (ends_at_lem level s w.0 10 w.2.0 refl) c acc a m in
        let z = sinks-past s 10 w.2.0 refl refl (sinks-over s ((rises_tree s x).by at w.0 w.1) l (omega (arith, k.over)) k) in
        (p.first, deep-by s (p.goes ∙ chain_seq level s o c p.tree w.0 w.2.0) (fy.seq_of ly o (w.0 + 1) n w.2.2 z c (Some p.tree) (Some (back Seq a x)) p.same).1))
        (λ l. fx.seq_of lx o at w.0 w.1 (sinks-as s l k) c acc a m))

    sunk-choices : Sunk (two false Choice x y)
    unfolding pieces depth back
    sunk-choices = sunk-choice (two false Choice x y) refl
        (λ o at n h k acc a m.
        let w = cut s (pieces x) (separator Choice ++ pieces y) at n (stand_as s (enclosed_none _) at n h) in
        by_side o (depth x)
        (λ l.
        let p = gx.choice_of o at w.0 w.1 l (ends_at_lem level s w.0 11 w.2.0 refl) acc a m in
        let c = Some (closed p.choices p.last) in
        let z = sinks-past s 11 w.2.0 refl refl (sinks-over s ((rises_tree s x).by at w.0 w.1) l (omega (arith, k.over)) k) in
        (p.first, deep-by s (p.goes ∙ chain_choice level s o p.choices p.last w.0 w.2.0) (fy.choice_of o (w.0 + 1) n w.2.2 z c (Some (back Choice a x)) p.same).1))
        (λ l. fx.choice_of o at w.0 w.1 (sinks-as s l k) acc a m))

  -- ---- every tree

  sunk : (m : Tree Bool) → Fits m → fine m ≡ true → counted m ≡ true → Sunk m
  unfolding Fits fine counted
  sunk (leaf b a) k f c = rooted_leaf sunk-closed b a (sunk-leaf a)
  sunk (one b (plain u) t) k f c = rooted_one sunk-closed b (plain u) t (sunk-unary u t (sunk t k.1 f (and_true (unary_counts u) (counted t) c).1) k.0)
  sunk (one b (node_tag n) t) k f c = rooted_one sunk-closed b (node_tag n) t (sunk-tag t (sunk t k.1 (and_true (fine_wrap (node_tag n)) (fine t) f).1 c) n k.0)
  sunk (two b Seq x y) k f c =
      let p = and_true (fine x) (fine y) f in
      let q = and_true (counted x) (counted y) c in
      rooted_two sunk-closed b Seq x y (sunk-seqs x y (every level s x k.2 p.0 q.0) (sunk x k.2 p.0 q.0) (sunk y k.3 p.1 q.1) k.0 k.1)
  sunk (two b Choice x y) k f c =
      let p = and_true (fine x) (fine y) f in
      let q = and_true (counted x) (counted y) c in
      rooted_two sunk-closed b Choice x y (sunk-choices x y (every level s x k.2 p.0 q.0) (sunk x k.2 p.0 q.0) (sunk y k.3 p.1 q.1))

  -- ---- rules

  deep-rule : {m : Parsed} (f : Tree Span → ℕ → Ruling) → Deep s refused m → Deep s no_rule (rule_of m f)
  unfolding rule_of
  deep-rule f d = record { at = d.at; first = d.first; refuses = ap (λ (z : Parsed). rule_of z f) d.refuses }

  rule-deep : (r : Rule Bool) → Fits r.tree → fine_rule r ≡ true → counted r.tree ≡ true → (at n : ℕ) → Stand s at (rule_pieces r) n → Sinks s 0 (depth r.tree) at → Deep s no_rule (rule_from level s at)
  unfolding fine_rule rule_pieces
  rule-deep r w f c at n h k =
      let a = and_true (Check.is_name r.name) _ f in
      let b = and_true (leb r.mark 4) (fine r.tree) a.1 in
      let i = cut s (mark_pieces r.mark) (braced r) (at + 1 + 1) n h.2.2 in
      let j = cut s (pieces r.tree) (space ∷ rbrace ∷ gap 10 ∷ []) (i.0 + 1) n i.2.2 in
      let m = marked s r.mark (at + 1 + 1) i.0 b.0 i.1 i.2.0 in
      let x = sinks-past s 1 h.2.0 refl refl (sinks-past s 18 h.0 refl refl k) in
      let y = sinks-past s 2 i.2.0 refl refl (sinks-over s ((rises_mark s r.mark b.0).by (at + 1 + 1) i.0 i.1) (omega arith) k.over x) in
      let e = expr-deep r.tree (sunk r.tree w b.1 c) 0 (i.0 + 1) j.0 j.1 y in
      let q : past_bar s (i.0 + 1) ≡ i.0 + 1 = choose_false (is s (i.0 + 1) 11) _ _ e.0 in
      deep-by s (rule_opens level s at i.0 (named s at r.name h.0 h.1 a.0) h.2.0 m.1 i.2.0 q) (deep-rule _ e.1)

  rules-deep : (us : List (Rule Bool)) (k at n : ℕ) → FitRules us → fine_rules us ≡ true → counted_rules us ≡ true → Stand s at (rules_pieces us) n → n ≡ length (toks s) → length (toks s) ≤ at + k → Sinks s 0 (depths us) at
      → Deep s unruled (rules_up_to level s k at)
  unfolding FitRules fine_rules counted_rules depths rules_pieces rule_pieces then_rules
  rules-deep [] k at n w f c h e l z = no_deeper refl z
  rules-deep (r ∷ us) zero at n w f c h e l z = let i = inside_is s at 18 (omega arith) (Values.yes s at 18 h.0) in absurd (omega arith)
  rules-deep (r ∷ us) (suc k) at n w f c h e l z =
      let a = and_true (fine_rule r) (fine_rules us) f in
      let b = and_true (counted r.tree) (counted_rules us) c in
      let i = cut s (rule_pieces r) (rules_pieces us) at n h in
      let o = rule_on s r at i.0 i.1 in
      by_side 0 (depth r.tree)
      (λ d.
      let u = rule_of_lem level s r w.0 a.0 b.0 (omega arith) at i.0 i.1 in
      let y = sinks-over s ((rises_rule s r a.0).by at i.0 i.1) d (omega (arith, z.over)) z in
      let v = rules-deep us k i.0 n w.1 a.1 b.1 i.2 e (omega arith) y in
      record { at = v.at; first = v.first; refuses = rules_on level s k at h.0 ∙ rule_then level s at k u.goes ∙ ap (with_rule u.found) v.refuses })
      (λ d.
      let v = rule-deep r w.0 a.0 b.0 at i.0 i.1 (sinks-as s d z) in
      record { at = v.at; first = v.first; refuses = rules_on level s k at h.0 ∙ ap (λ (x : Ruling). then_rules x (λ r n. with_rule r (rules_up_to level s k n))) v.refuses })

  -- marked rules that are too deep are refused at the first bracket too many
  pub grammar_deep : (us : List (Rule Bool)) (n : ℕ) → FitRules us → fine_rules us ≡ true → counted_rules us ≡ true → max_open < depths us → Stand s 0 (rules_pieces us) n → n ≡ length (toks s)
      → Deep s unruled (grammar level s)
  unfolding depths rules_pieces rule_pieces open_at most_to
  grammar_deep [] n w f c d h e = absurd (omega arith)
  grammar_deep (r ∷ us) n w f c d h e =
      deep-by s (grammar_is level s h.0) (rules-deep (r ∷ us) (length (toks s)) 0 n w f c h e (omega arith) (record { now = refl; before = omega arith; over = omega arith }))
