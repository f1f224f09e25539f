-- The paths of the cycle: expression, term, node.
use Rattle.std.specs.Prelude.{ℕ, Option, Some, None, Result, Ok, Err}
use Prim.Native.Nat.{ℕ, ◌+◌, ◌-◌, ◌*◌, ◌≤◌, ◌<◌}
use mathlib.Core.Path.{◌≡◌, refl, sym, ap, ◌∙◌}
use mathlib.Core.Bool.{Bool, true, false}
use mathlib.Core.List.{List}
use mathlib.Core.Logic.{◌⊎◌, inl, inr, ⊎_elim}
use native.Mathlib.Omega.{arith}
use lib.ListN.{length}
use borrow.Author.Tests.{le-leb, lt-leb}
use Rattle.text.specs.Booleans.{choose}
use Rattle.text.proofs.Booleans.{choose_false, choose_true}
use Rattle.text.proofs.Tests.{lt_or_ge}
use Rattle.text.specs.Limits.{max_open, max_text}
use Rattle.token.specs.Table.{toks, kind, start, is}
use Rattle.table.specs.Tree.{Span, Tree, count, size, starts_at}
use Rattle.table.specs.declared.Join.TheVariants.{Seq}
use Rattle.structure.specs.declared.Level.{Level}
use Rattle.structure.specs.declared.Refusal.{Refusal}
use Rattle.structure.specs.declared.Why.TheVariants.{NotAllowed, TooDeep}
use Rattle.structure.specs.Refusals.{because}
use Rattle.structure.specs.declared.Piece.{Piece}
use Rattle.structure.specs.declared.Bracket.{Bracket}
use Rattle.structure.specs.declared.Bracket.TheVariants.{Unopened, Nothing}
use Rattle.structure.specs.declared.Posts.{Posts}
use Rattle.structure.specs.Structure.{Parsed, got, refused, next, join, closed, leaf_at, Call, expr, term, node, chain, posts, place, Run}
use Rattle.structure.specs.Answers.{unread, summary, wanted, opening_of, predicates_end, predicates, bracket_of, Posted}
use Rattle.structure.proofs.Steps.{inside_is, sees, misses, next_good, next_bad, next_assoc, next_on, opened_true, opened_false}
use Rattle.structure.proofs.Sizes.{most, Grown, grown_none, grown_starts, count_closed, size_closed, count_more, size_more}
use Rattle.structure.proofs.Fuel.{Went, went, held, held_size}
use Rattle.structure.proofs.Grammar.{expr_law, chain_law, signed_law}
use Rattle.structure.proofs.Wants.{piece, all_posts, wanted_on, wanted_off, good, bad, sum_refused, sum_got, fewer, sinks}
use Rattle.structure.proofs.Checks.{Opened, was_untied, grown_signs, tails_all, tails_bad, Bracketed, was_open, was_unopened, was_nothing, signed_end}

-- ---- a finished term

-- the opening bracket moves its start
unfoldable pub finished : List ℕ → ℕ → Tree Span → Tree Span
finished s f u = choose (is s f 6) (λ _. starts_at u (start s f)) (λ _. u)

finished_by : (b : Bool) (a : ℕ) (u : Tree Span) → Grown u (choose b (λ _. starts_at u a) (λ _. u)) 0 0
finished_by true a u = grown_starts u a
finished_by false a u = grown_none u

pub finished_grown : (s : List ℕ) (f : ℕ) (u : Tree Span) → Grown u (finished s f u) 0 0
unfolding finished
finished_grown s f u = finished_by (is s f 6) (start s f) u

-- ---- where an answer ends

pub record Ends (s : List ℕ) (at n k b : ℕ) : Type 0 where
  pub on : at < n
  pub within : n ≤ length (toks s)
  pub few : at + k ≤ n
  pub small : b ≤ most * k

module _ (level : Level) (s : List ℕ) (w : length s ≤ max_text) where
  ends_of : (at : ℕ) (c : Call) (r : Result Piece Refusal) (n k b : ℕ) → place c ≡ at → held c ≡ 0 → held_size c ≡ 0 → ((t : Tree Span) → Went s c t n → at < n) → r ≡ summary (Run level s c) → r ≡ Ok (piece n k b) → Ends s at n k b
  ends_of at c r n k b x y v z e q =
      let (t, f, g, h) = good _ r n k b e q in
      let p = went level s c t n f in
      let l = z t p in
      let a = p.small w in
      let i = p.within in
      let j = p.few in
      record { on = l; within = omega arith; few = omega arith; small = omega arith }

  pub node_ends : (o at : ℕ) (r : Result Piece Refusal) (n k b : ℕ) → r ≡ summary (Run level s (node o at)) → r ≡ Ok (piece n k b) → Ends s at n k b
  node_ends o at r n k b e q = ends_of at (node o at) r n k b refl refl refl (λ t p. let l = p.on in omega arith) e q

  pub term_ends : (o at : ℕ) (r : Result Piece Refusal) (n k b : ℕ) → r ≡ summary (Run level s (term o at)) → r ≡ Ok (piece n k b) → Ends s at n k b
  term_ends o at r n k b e q = ends_of at (term o at) r n k b refl refl refl (λ t p. let l = p.on in omega arith) e q

  pub expr_ends : (o at : ℕ) (r : Result Piece Refusal) (n k b : ℕ) → r ≡ summary (Run level s (expr o at)) → r ≡ Ok (piece n k b) → Ends s at n k b
  expr_ends o at r n k b e q = ends_of at (expr o at) r n k b refl refl refl (λ t p. let l = p.on in omega arith) e q

-- ---- an expression

-- `~` or `|` stands at an index
abbrev pub Joins : ℕ → Type 0
Joins x = (x ≡ 10) ⊎ (x ≡ 11)

pub joins_by : (x : ℕ) → 10 ≤ x → x ≤ 11 → Joins x
joins_by x l m = ⊎_elim (λ h. inl (omega arith)) (λ h. inr (omega arith)) (lt_or_ge x 11)

module _ (level : Level) (s : List ℕ) (o at : ℕ) where
  -- what was read of a chain, with its nodes and bytes
  pub record ChainInv (i k b : ℕ) : Type 0 where
    pub ends : Ends s at i k b
    pub choices : Option (Tree Span)
    pub last : Tree Span
    pub read : Run level s (expr o at) ≡ Run level s (chain o choices last i)
    pub counts : count (closed choices last) ≡ k
    pub sized : size (closed choices last) ≡ b

  pub expr_refused : (r : Result Piece Refusal) (x : Refusal) → r ≡ summary (Run level s (term o at)) → r ≡ Err x → Err x ≡ summary (Run level s (expr o at))
  expr_refused r x e q = sum_refused (expr_law level s o at ∙ next_bad _ _ (bad _ r x e q))

  pub chain_start : length s ≤ max_text → (r : Result Piece Refusal) (n k b : ℕ) → r ≡ summary (Run level s (term o at)) → r ≡ Ok (piece n k b) → ChainInv n k b
  unfolding closed
  chain_start w r n k b e q =
      let (t, f, g, h) = good _ r n k b e q in
      record { ends = term_ends level s w o at r n k b e q; choices = None; last = t; read = expr_law level s o at ∙ next_good _ _ f; counts = g; sized = h }

  -- neither stands there: the expression has ended
  pub chain_done : (choices : Option (Tree Span)) (last : Tree Span) (p : ℕ) → Run level s (expr o at) ≡ Run level s (chain o choices last p) → (kind s p ≡ 10 → ⊥) → (kind s p ≡ 11 → ⊥)
      → Ok (piece p (count (closed choices last)) (size (closed choices last))) ≡ summary (Run level s (expr o at))
  chain_done choices last p i q r =
      sum_got p _ _ (i ∙ chain_law level s o choices last p ∙ choose_false (is s p 10) _ _ (misses s p _ 10 refl q) ∙ choose_false (is s p 11) _ _ (misses s p _ 11 refl r)) refl refl refl

  module _ (x p k b : ℕ) (e : x ≡ kind s p) (i : ChainInv p k b) where
    pub joint_in : Joins x → p < length (toks s)
    joint_in (inl q) = inside_is s p 10 (omega arith) (sees s p x 10 e q)
    joint_in (inr q) = inside_is s p 11 (omega arith) (sees s p x 11 e q)

    -- the chain goes on with a term
    record Goes : Type 0 where
      choices : Tree Span → Option (Tree Span)
      last : Tree Span → Tree Span
      read : Run level s (expr o at) ≡ next (Run level s (term o (p + 1))) (λ t n. Run level s (chain o (choices t) (last t) n))
      counts : (t : Tree Span) → count (closed (choices t) (last t)) ≡ k + count t + 1
      sized : (t : Tree Span) → size (closed (choices t) (last t)) ≡ b + size t

    goes : Joins x → Goes
    goes (inl q) = record {
      choices = λ t. i.choices;
      last = λ t. join Seq i.last t;
      read = i.read ∙ chain_law level s o i.choices i.last p ∙ choose_true (is s p 10) _ _ (sees s p x 10 e q);
      counts = λ t. let a = count_closed i.choices i.last t in let c = i.counts in omega arith;
      sized = λ t. let a = size_closed i.choices i.last t in let c = i.sized in omega arith;
    }
    goes (inr q) = record {
      choices = λ t. Some (closed i.choices i.last);
      last = λ t. t;
      read =
          i.read ∙ chain_law level s o i.choices i.last p
          ∙ choose_false (is s p 10) _ _ (misses s p x 10 e (λ h. let z : ◌≡◌ {A = ℕ} 10 11 = sym h ∙ q in omega arith)) ∙ choose_true (is s p 11) _ _ (sees s p x 11 e q);
      counts = λ t. let a = count_more i.choices i.last t in let c = i.counts in omega arith;
      sized = λ t. let a = size_more i.choices i.last t in let c = i.sized in omega arith;
    }

    pub chain_refused : Joins x → (r : Result Piece Refusal) (y : Refusal) → r ≡ summary (Run level s (term o (p + 1))) → r ≡ Err y → Err y ≡ summary (Run level s (expr o at))
    chain_refused j r y f q = sum_refused ((goes j).read ∙ next_bad _ _ (bad _ r y f q))

    pub chain_more : length s ≤ max_text → Joins x → (r : Result Piece Refusal) (n k₂ b₂ : ℕ) → r ≡ summary (Run level s (term o (p + 1))) → r ≡ Ok (piece n k₂ b₂) → (p < n) × ChainInv n (k + k₂ + 1) (b + b₂)
    chain_more w j r n k₂ b₂ f q =
        let g = goes j in
        let (t, h, c, d) = good _ r n k₂ b₂ f q in
        let l = term_ends level s w o (p + 1) r n k₂ b₂ f q in
        let m = i.ends in
        let c₁ = g.counts t in
        let d₁ = g.sized t in (
          omega (arith, l.on),
          record {
            ends = record { on = omega (arith, l.on, m.on); within = l.within; few = omega (arith, l.few, m.few); small = omega (arith, l.small, m.small) };
            choices = g.choices t;
            last = g.last t;
            read = g.read ∙ next_good _ _ h;
            counts = omega arith;
            sized = omega arith;
          },
        )

-- ---- a term

module _ (level : Level) (s : List ℕ) (w : length s ≤ max_text) (o at : ℕ) where
  pub term_untied : (r : Option Piece) → r ≡ opening_of level s at → r ≡ None → (y : Refusal) → y ≡ because NotAllowed (start s (at + 1)) → Err y ≡ summary (Run level s (term o at))
  term_untied r e q y z = ap Err z ∙ sum_refused ((was_untied level s at r e q).1 o)

  module _ (p k b : ℕ) (v : Opened level s at p k b) (f : ℕ) (ends : f ≡ predicates_end s p) where
    to-node : Run level s (term o at)
        ≡ next (next (Run level s (node o f)) (λ t n. next (Run level s (posts t n)) (λ u m. got (finished s f u) m))) (λ t n. next (got (predicates s p (f - p) t) n) (λ t n. got (v.wrap t) n))
    unfolding finished
    to-node =
        let i = signed_end s p f ends in
        v.same o
        ∙ ap (λ (m : Parsed). next m (λ t n. got (v.wrap t) n))
        (i.same level o ∙ ap (λ (m : Parsed). next m (λ t n. got (predicates s p (f - p) t) n)) (signed_law level s o f ∙ choose_false (is s f 8) _ _ i.no_pos ∙ choose_false (is s f 9) _ _ i.no_neg))
        ∙ next_assoc _ _ _

    pub term_refused : (r : Result Piece Refusal) (x : Refusal) → r ≡ summary (Run level s (node o f)) → r ≡ Err x → Err x ≡ summary (Run level s (term o at))
    term_refused r x e q = sum_refused (to-node ∙ next_bad _ _ (next_bad _ _ (bad _ r x e q)))

    pub term_read : (t u : Tree Span) (n z : ℕ) → Run level s (node o f) ≡ got t n → Run level s (posts t n) ≡ got u z
        → Run level s (term o at) ≡ got (v.wrap (predicates s p (f - p) (finished s f u))) z
    term_read t u n z e q = to-node ∙ next_good _ _ (next_good _ _ e ∙ next_good _ _ q) ∙ next_on _ _ _

    module _ (r : Result Piece Refusal) (n k₁ b₁ : ℕ) (e : r ≡ summary (Run level s (node o f))) (q : r ≡ Ok (piece n k₁ b₁)) (x : Result Posts Refusal) (j : Posted s n x) where
      pub term_unposted : (y : Refusal) → x ≡ Err y → Err y ≡ summary (Run level s (term o at))
      term_unposted y h =
          let (t, g, c, d) = good _ r n k₁ b₁ e q in
          sum_refused (to-node ∙ next_bad _ _ (next_good _ _ g ∙ next_bad _ _ (tails_bad _ t x y (j.around level t) h)))

      module _ (z k₂ : ℕ) (h : x ≡ Ok (all_posts z k₂)) where
        pub term_sums : length (toks s) ≤ max_text → (k₁ + k₂ + (f - p) + k ≤ max_text) × (b₁ + b ≤ most * max_text)
        term_sums l =
            let (t, g, c, d) = good _ r n k₁ b₁ e q in
            let (u, g₁, w₁) = tails_all _ t x z k₂ (j.around level t) h in
            let a = node_ends level s w o f r n k₁ b₁ e q in
            let m = went level s (posts t n) u z g₁ in
            let c₁ = w₁.counts in
            let a₁ = a.few in
            let a₂ = a.within in
            let a₃ = a.small in
            let m₁ = m.few in
            let m₂ = m.within in
            let v₁ = v.from in
            let v₂ = v.one in
            let v₃ = v.small w in
            let i₁ = (signed_end s p f ends).from in
            (omega arith, omega arith)

        pub term_good : Ok (piece z (k₁ + k₂ + (f - p) + k) (b₁ + b)) ≡ summary (Run level s (term o at))
        term_good =
            let (t, g, c, d) = good _ r n k₁ b₁ e q in
            let (u, g₁, w₁) = tails_all _ t x z k₂ (j.around level t) h in
            let y = finished s f u in
            let w₂ = finished_grown s f u in
            let w₃ = grown_signs s p (f - p) (finished s f u) in
            let w₄ = v.grown (predicates s p (f - p) (finished s f u)) in
            sum_got z (k₁ + k₂ + (f - p) + k) (b₁ + b) (term_read t u n z g g₁) refl (omega arith) (omega arith)

  -- ---- a node

  pub node_leaf : (a : Bracket) → a ≡ bracket_of s at → a ≡ Nothing → (r : Result Piece Refusal) → r ≡ summary (leaf_at o s at) → r ≡ summary (Run level s (node o at))
  node_leaf a e q r h = h ∙ ap summary (sym (was_nothing level s at a e q o))

  pub node_unopened : (a : Bracket) → a ≡ bracket_of s at → a ≡ Unopened → (y : Refusal) → y ≡ because NotAllowed (start s (at + 1)) → Err y ≡ summary (Run level s (node o at))
  node_unopened a e q y z = ap Err z ∙ sum_refused ((was_unopened level s at a e q).1 o)

  pub node_deep : (p k : ℕ) → bracket_of s at ≡ Bracket.Opens p k → 1024 ≤ o → Err (because TooDeep (start s p)) ≡ summary (Run level s (node o at))
  node_deep p k e h = sum_refused ((was_open level s at (bracket_of s at) p k refl e).same o ∙ opened_true o s p _ (le-leb max_open o h))

  module _ (p k : ℕ) (v : Bracketed level s at p k) (h : o < 1024) (r : Result Piece Refusal) (e : r ≡ summary (Run level s (expr (o + 1) (p + 1)))) where
    pub node_refused : (x : Refusal) → r ≡ Err x → Err x ≡ summary (Run level s (node o at))
    node_refused x q = sum_refused (v.same o ∙ opened_false o s p _ (lt-leb max_open o h) ∙ next_bad _ _ (bad _ r x e q))

    module _ (n k₁ b₁ : ℕ) (q : r ≡ Ok (piece n k₁ b₁)) (c : Option ℕ) (f : c ≡ wanted s n 7) where
      pub node_unclosed : c ≡ None → (y : Refusal) → y ≡ because NotAllowed (start s n) → Err y ≡ summary (Run level s (node o at))
      node_unclosed g y z =
          let (t, l, a, b) = good _ r n k₁ b₁ e q in
          sum_refused (v.same o ∙ opened_false o s p _ (lt-leb max_open o h) ∙ next_good _ _ l ∙ wanted_off refused s n 7 _ c y f g z)

      pub node_sum : length (toks s) ≤ max_text → k₁ + k ≤ max_text
      node_sum l =
          let a = expr_ends level s w (o + 1) (p + 1) r n k₁ b₁ e q in
          omega (arith, a.few, a.within, v.from, v.one)

      pub node_closed : (z : ℕ) → c ≡ Some z → Ok (piece z (k₁ + k) b₁) ≡ summary (Run level s (node o at))
      node_closed z g =
          let (t, l, a, b) = good _ r n k₁ b₁ e q in
          let y = v.grown t n in
          sum_got {t = v.wrap t n} z (k₁ + k) b₁ (v.same o ∙ opened_false o s p _ (lt-leb max_open o h) ∙ next_good _ _ l ∙ wanted_on refused s n 7 _ c z f g) refl (omega arith) (omega arith)

-- ---- what is unread falls along the cycle

pub falls_term : (level : Level) (s : List ℕ) (at p k b f : ℕ) → Opened level s at p k b → f ≡ predicates_end s p → unread s f ≤ unread s at
falls_term level s at p k b f t ends =
    let g = signed_end s p f ends in
    let a = sinks s at p (omega (arith, t.from)) t.within in
    let c = sinks s p f g.from g.within in
    omega arith

pub falls_node : (level : Level) (s : List ℕ) (at p k : ℕ) → Bracketed level s at p k → unread s (p + 1) < unread s at
falls_node level s at p k t = fewer s at (p + 1) (omega (arith, t.from)) (omega (arith, t.within))
