-- The paths of the functions that check expressions, terms and nodes.
use Rattle.std.specs.Prelude.{ℕ, Option, Some, None, Result, Ok, Err}
use Prim.Native.Nat.{ℕ, zero, suc, ◌+◌, ◌-◌, ◌*◌, ◌≤◌, ◌<◌}
use mathlib.Core.Path.{◌≡◌, refl, sym, ap, ◌∙◌, subst}
use mathlib.Core.Bool.{Bool, true, false}
use mathlib.Core.List.{List}
use mathlib.Core.Logic.{◌⊎◌, inl, inr}
use native.Mathlib.Omega.{arith}
use lib.ListN.{length}
use Rattle.text.specs.Booleans.{choose, or}
use Rattle.text.specs.Words.{push}
use Rattle.text.proofs.Booleans.{choose_false, choose_true, choose_by, or_first, or_second, or_neither, or_by, or_false}
use Rattle.text.specs.Limits.{max_text}
use Rattle.token.specs.Table.{toks, kind, start, end, is, label}
use Rattle.token.proofs.Table.{label_length}
use Rattle.table.specs.Tree.{Span, plain, Tree, count, size, ends_at}
use Rattle.table.specs.declared.Unary.{Unary}
use Rattle.table.specs.declared.Unary.TheVariants.{PosPred, NegPred, Push}
use Rattle.structure.specs.declared.Level.{Level}
use Rattle.structure.specs.declared.Level.TheVariants.{Tagged, Plain}
use Rattle.structure.specs.declared.Refusal.{Refusal}
use Rattle.structure.specs.declared.Why.TheVariants.{NotAllowed}
use Rattle.structure.specs.Refusals.{because}
use Rattle.structure.specs.declared.Piece.{Piece}
use Rattle.structure.specs.declared.Bracket.{Bracket}
use Rattle.structure.specs.declared.Bracket.TheVariants.{Opens, Unopened, Nothing}
use Rattle.structure.specs.declared.Posts.{Posts}
use Rattle.structure.specs.Tokens.{spells}
use Rattle.structure.specs.Structure.{Parsed, got, refused, next, want, opened, prefixed, postfixed, in_tag, post, postfix_at, leaf_at, posts_by, expr, term, signed, node, posts, Run}
use Rattle.structure.specs.Answers.{summary, wanted, tag_nodes, tag_bytes, opening_of, is_sign, predicates_in, predicates_end, sign_of, predicates, Signed, bracket_of, tail_of, tailed, Posted}
use Rattle.structure.proofs.Steps.{inside_is, sees, misses, want_true, want_false, next_assoc, next_fun, next_on, next_id, spells_in}
use Rattle.structure.proofs.Sizes.{most, label_short, Grown, grown_none, grown_ends, grown_before, grown_after, grown_tag, tag_small}
use Rattle.structure.proofs.Fuel.{postfix_past}
use Rattle.structure.proofs.Grammar.{term_law, signed_law, node_law, posts_law}
use Rattle.structure.proofs.Wants.{piece, all_posts, was_here, was_missing, was_past, was_bad, was_ended, good, bad, sum_refused, sum_got}

-- ---- a tag

-- a term from its predicates on, in its tag
pub record Opened (level : Level) (s : List ℕ) (at p k b : ℕ) : Type 0 where
  pub from : at + k ≤ p
  pub within : (at ≡ p → ⊥) → p ≤ length (toks s)
  pub one : k ≤ 1
  pub small : length s ≤ max_text → b ≤ most * k
  pub wrap : Tree Span → Tree Span
  pub same : (o : ℕ) → Run level s (term o at) ≡ next (Run level s (signed o p)) (λ t n. got (wrap t) n)
  pub grown : (t : Tree Span) → Grown t (wrap t) k b

module _ (level : Level) (s : List ℕ) (at : ℕ) where
  untagged : is s at 19 ≡ false → Opened level s at at 0 0
  untagged e = record {
    from = omega arith;
    within = λ h. absurd (h refl);
    one = omega arith;
    small = λ h. omega arith;
    wrap = λ t. t;
    same = λ o. term_law level s o at ∙ choose_false (is s at 19) _ _ e ∙ sym (next_id (Run level s (signed o at)));
    grown = λ t. grown_none t;
  }

  tagged : is s at 19 ≡ true → is s (at + 1) 1 ≡ true → Opened level s at (at + 2) (tag_nodes level) (tag_bytes level (length (label s at)))
  tagged e f =
      let m = inside_is s (at + 1) 1 (omega arith) f in
      let h = label_short s at in
      let y = tag_small level 0 (omega arith) in
      let z : at + 1 + 1 ≡ at + 2 = omega arith in
      record {
        from = omega arith;
        within = λ n. omega arith;
        one = y.0;
        small = λ w. (tag_small level (length (label s at)) (omega arith)).1;
        wrap = in_tag level (start s at) (label s at);
        same = λ o. term_law level s o at ∙ choose_true (is s at 19) _ _ e ∙ want_true refused s (at + 1) 1 _ f ∙ ap (λ (j : ℕ). next (Run level s (signed o j)) (λ t n. got (in_tag level (start s at) (label s at) t) n)) z;
        grown = λ t. grown_tag level (start s at) (label s at) t;
      }

  by_tag : (p k b : ℕ) (b₁ b₂ : Bool) (k₁ n₁ : ℕ) → (b₁ ≡ false → Opened level s at at 0 0) → (b₁ ≡ true → b₂ ≡ true → Opened level s at (at + 2) k₁ n₁)
      → choose b₁ (λ u. choose b₂ (λ u. Some (piece (at + 2) k₁ n₁)) (λ u. None)) (λ u. Some (piece at 0 0)) ≡ Some (piece p k b) → Opened level s at p k b
  by_tag p k b false b₂ k₁ n₁ f g e =
      let h : ◌≡◌ {A = Piece} (piece at 0 0) (piece p k b) = cc in
      let x : at ≡ p = ap (λ (v : Piece). v.next) h in
      let y : ◌≡◌ {A = ℕ} 0 k = ap (λ (v : Piece). v.nodes) h in
      let z : ◌≡◌ {A = ℕ} 0 b = ap (λ (v : Piece). v.bytes) h in
      subst (λ (i : ℕ). Opened level s at p k i) z (subst (λ (i : ℕ). Opened level s at p i 0) y (subst (λ (i : ℕ). Opened level s at i 0 0) x (f refl)))
  by_tag p k b true true k₁ n₁ f g e =
      let h : ◌≡◌ {A = Piece} (piece (at + 2) k₁ n₁) (piece p k b) = cc in
      let x : at + 2 ≡ p = ap (λ (v : Piece). v.next) h in
      let y : k₁ ≡ k = ap (λ (v : Piece). v.nodes) h in
      let z : n₁ ≡ b = ap (λ (v : Piece). v.bytes) h in
      subst (λ (i : ℕ). Opened level s at p k i) z (subst (λ (i : ℕ). Opened level s at p i n₁) y (subst (λ (i : ℕ). Opened level s at i k₁ n₁) x (g refl refl)))
  by_tag p k b true false k₁ n₁ f g e = let z : ◌≡◌ {A = ℕ} 0 1 = cc in absurd (omega arith)

  no_tag : (b₁ b₂ : Bool) (k b : ℕ) → choose b₁ (λ u. choose b₂ (λ u. Some (piece (at + 2) k b)) (λ u. None)) (λ u. Some (piece at 0 0)) ≡ None → (b₁ ≡ true) × (b₂ ≡ false)
  no_tag true false k b e = (refl, refl)
  no_tag true true k b e = let z : ◌≡◌ {A = ℕ} 0 1 = cc in absurd (omega arith)
  no_tag false b₂ k b e = let z : ◌≡◌ {A = ℕ} 0 1 = cc in absurd (omega arith)

  pub was_from : (r : Option Piece) (p k b : ℕ) → r ≡ opening_of level s at → r ≡ Some (piece p k b) → Opened level s at p k b
  unfolding opening_of
  was_from r p k b e q = by_tag p k b (is s at 19) (is s (at + 1) 1) (tag_nodes level) (tag_bytes level (length (label s at))) untagged tagged (sym e ∙ q)

  pub was_untied : (r : Option Piece) → r ≡ opening_of level s at → r ≡ None → (at < length (toks s)) × ((o : ℕ) → Run level s (term o at) ≡ refused (because NotAllowed (start s (at + 1))))
  unfolding opening_of
  was_untied r e q =
      let (f, g) = no_tag (is s at 19) (is s (at + 1) 1) (tag_nodes level) (tag_bytes level (length (label s at))) (sym e ∙ q) in
      (inside_is s at 19 (omega arith) f, λ o. term_law level s o at ∙ choose_true (is s at 19) _ _ f ∙ want_false refused s (at + 1) 1 _ g)

  -- what `tag_of` answers
  pub tag_none : (x : ℕ) → x ≡ kind s at → (x ≡ 19 → ⊥) → Some (piece at 0 0) ≡ opening_of level s at
  unfolding opening_of
  tag_none x e q = sym (choose_false (is s at 19) _ _ (misses s at x 19 e q))

  module _ (x : ℕ) (e : x ≡ kind s at) (q : x ≡ 19) (r : Option ℕ) (f : r ≡ wanted s (at + 1) 1) where
    pub tag_untied : r ≡ None → None ≡ opening_of level s at
    unfolding opening_of
    tag_untied h = sym (choose_true (is s at 19) _ _ (sees s at x 19 e q) ∙ choose_false (is s (at + 1) 1) _ _ (was_missing s (at + 1) 1 r f h))

    tag_is : (p : ℕ) → r ≡ Some p → opening_of level s at ≡ Some (piece p (tag_nodes level) (tag_bytes level (length (label s at))))
    unfolding opening_of
    tag_is p h =
        let w = was_here s (at + 1) 1 r p f h in
        let z : at + 2 ≡ p = let y = w.1 in omega arith in
        choose_true (is s at 19) _ _ (sees s at x 19 e q) ∙ choose_true (is s (at + 1) 1) _ _ w.0 ∙ ap (λ (i : ℕ). Some (piece i (tag_nodes level) (tag_bytes level (length (label s at))))) z

    pub tag_kept : (p : ℕ) → r ≡ Some p → level ≡ Tagged → (a z : ℕ) → a ≡ start s at → z ≡ end s at → Some (piece p 1 (z - (a + 1))) ≡ opening_of level s at
    tag_kept p h k a z i j =
        let l = label_length s at a z i j in
        sym (tag_is p h ∙ ap (λ (v : Level). Some (piece p (tag_nodes v) (tag_bytes v (length (label s at))))) k ∙ ap (λ (i : ℕ). Some (piece p 1 i)) (sym l))

    pub tag_dropped : (p : ℕ) → r ≡ Some p → level ≡ Plain → Some (piece p 0 0) ≡ opening_of level s at
    tag_dropped p h k = sym (tag_is p h ∙ ap (λ (v : Level). Some (piece p (tag_nodes v) (tag_bytes v (length (label s at))))) k)

-- ---- predicates

sign_pos : (s : List ℕ) (i : ℕ) → is s i 8 ≡ true → sign_of s i ≡ PosPred
sign_pos s i e = choose_true (is s i 8) _ _ e

sign_neg : (s : List ℕ) (i : ℕ) → is s i 8 ≡ false → sign_of s i ≡ NegPred
sign_neg s i e = choose_false (is s i 8) _ _ e

signs_in : (s : List ℕ) (at k p : ℕ) (t : Tree Span) → p ≡ at + k → predicates s at k (prefixed (start s p) (plain (sign_of s p)) t) ≡ predicates s at (suc k) t
unfolding predicates
signs_in s at zero p t e = let z : p ≡ at = omega arith in ap (λ (j : ℕ). prefixed (start s j) (plain (sign_of s j)) t) z
signs_in s at (suc k) p t e = ap (prefixed (start s at) (plain (sign_of s at))) (signs_in s (at + 1) k p t (omega arith))

pub grown_signs : (s : List ℕ) (at k : ℕ) (t : Tree Span) → Grown t (predicates s at k t) k 0
unfolding predicates
grown_signs s at zero t = grown_none t
grown_signs s at (suc k) t =
    let i = grown_signs s (at + 1) k t in
    let g = grown_before (start s at) (sign_of s at) (predicates s (at + 1) k t) in
    record { counts = omega arith; sizes = omega arith }

module _ (s : List ℕ) where
  -- a token's kind says whether it is a predicate
  pub sign_here : (i x : ℕ) → x ≡ kind s i → (x ≡ 8) ⊎ (x ≡ 9) → is_sign s i ≡ true
  sign_here i x e (inl q) = or_first (is s i 8) (is s i 9) (sees s i x 8 e q)
  sign_here i x e (inr q) = or_second (is s i 8) (is s i 9) (sees s i x 9 e q)

  pub sign_gone : (i x : ℕ) → x ≡ kind s i → (x ≡ 8 → ⊥) → (x ≡ 9 → ⊥) → is_sign s i ≡ false
  sign_gone i x e q r = or_neither (is s i 8) (is s i 9) (misses s i x 8 e q) (misses s i x 9 e r)

  pub sign_inside : (i : ℕ) → is_sign s i ≡ true → i < length (toks s)
  sign_inside i e = or_by (is s i 8) (is s i 9) e (inside_is s i 8 (omega arith)) (inside_is s i 9 (omega arith))

  -- ---- where they end

  ends_on : (k i : ℕ) → is_sign s i ≡ true → predicates_in s (suc k) i ≡ predicates_in s k (i + 1)
  unfolding predicates_in
  ends_on k i e = choose_true (is_sign s i) _ _ e

  ends_here : (k i : ℕ) → is_sign s i ≡ false → predicates_in s k i ≡ i
  unfolding predicates_in
  ends_here zero i e = refl
  ends_here (suc k) i e = choose_false (is_sign s i) _ _ e

  -- the predicates from the start on end where those from p on end
  abbrev pub EndInv : ℕ → ℕ → Type 0
  EndInv at p = predicates_end s at ≡ predicates_in s (length (toks s) - p) p

  pub end_start : (at : ℕ) → EndInv at at
  unfolding predicates_end
  end_start at = refl

  pub end_more : (at p : ℕ) → is_sign s p ≡ true → EndInv at p → (p < length (toks s)) × EndInv at (p + 1)
  end_more at p h i =
      let m = sign_inside p h in
      let z : length (toks s) - p ≡ suc (length (toks s) - (p + 1)) = omega arith in
      (m, i ∙ ap (λ (k : ℕ). predicates_in s k p) z ∙ ends_on (length (toks s) - (p + 1)) p h)

  pub end_done : (at p : ℕ) → is_sign s p ≡ false → EndInv at p → p ≡ predicates_end s at
  end_done at p h i = sym (i ∙ ends_here (length (toks s) - p) p h)

  -- ---- what stands before and behind that end

  -- a predicate and what follows it
  sign_step : (level : Level) (o i : ℕ) (a b : Bool) → is s i 8 ≡ a → is s i 9 ≡ b → or a b ≡ true
      → Run level s (signed o i) ≡ next (Run level s (signed o (i + 1))) (λ t n. got (prefixed (start s i) (plain (sign_of s i)) t) n)
  sign_step level o i true b v w e =
      signed_law level s o i ∙ choose_true (is s i 8) _ _ v ∙ next_fun _ _ _ (λ t n. ap (λ (u : Unary). got (prefixed (start s i) (plain u) t) n) (sym (sign_pos s i v)))
  sign_step level o i false b v w e =
      signed_law level s o i ∙ choose_false (is s i 8) _ _ v ∙ choose_true (is s i 9) _ _ (w ∙ e)
      ∙ next_fun _ _ _ (λ t n. ap (λ (u : Unary). got (prefixed (start s i) (plain u) t) n) (sym (sign_neg s i v)))

  -- a term from the start on is the term from p on, with a predicate around it for each token between
  record SignInv (at p : ℕ) : Type 0 where
    from : at ≤ p
    within : (at ≡ p → ⊥) → p ≤ length (toks s)
    same : (level : Level) (o : ℕ) → Run level s (signed o at) ≡ next (Run level s (signed o p)) (λ t n. got (predicates s at (p - at) t) n)

  sign-none : (at : ℕ) → SignInv at at
  unfolding predicates
  sign-none at =
      let z : at - at ≡ 0 = omega arith in
      record {
        from = omega arith;
        within = λ h. absurd (h refl);
        same = λ level o. sym (next_fun _ _ _ (λ t n. ap (λ (k : ℕ). got (predicates s at k t) n) z) ∙ next_id (Run level s (signed o at)));
      }

  sign-more : (at p : ℕ) → is_sign s p ≡ true → SignInv at p → SignInv at (p + 1)
  sign-more at p e i =
      let h = i.from in
      let z : suc (p - at) ≡ p + 1 - at = omega arith in
      let m = sign_inside p e in
      record {
        from = omega arith;
        within = λ n. omega arith;
        same = λ level o.
            i.same level o ∙ ap (λ (m : Parsed). next m (λ t n. got (predicates s at (p - at) t) n)) (sign_step level o p (is s p 8) (is s p 9) refl refl e) ∙ next_assoc _ _ _
            ∙ next_fun _ _ _ (λ t n. next_on _ _ _ ∙ ap (λ (u : Tree Span). got u n) (signs_in s at (p - at) p t (omega arith) ∙ ap (λ (k : ℕ). predicates s at k t) z));
      }

  sign-done : (at p : ℕ) → is_sign s p ≡ false → SignInv at p → Signed s at p
  sign-done at p e i =
      let (f, g) = or_false (is s p 8) (is s p 9) e in
      record { from = i.from; within = i.within; same = i.same; no_pos = f; no_neg = g }

  -- no predicate stands past the last token
  none_left : (p : ℕ) → length (toks s) ≤ p → is_sign s p ≡ false
  none_left p l = by (is_sign s p) refl
    where
      by : (b : Bool) → is_sign s p ≡ b → is_sign s p ≡ false
      by true e = let m = sign_inside p e in absurd (omega arith)
      by false e = e

  signs-from : (k at p : ℕ) → length (toks s) ≤ p + k → SignInv at p → Signed s at (predicates_in s k p)
  unfolding predicates_in
  signs-from zero at p l i = sign-done at p (none_left p (omega arith)) i
  signs-from (suc k) at p l i =
      choose_by (Signed s at) (is_sign s p) _ _ (λ e. signs-from k at (p + 1) (omega arith) (sign-more at p e i)) (λ e. sign-done at p e i)

  -- a term from the start on is that from the end of its predicates on, in them, and no predicate follows
  pub signed_end : (at r : ℕ) → r ≡ predicates_end s at → Signed s at r
  unfolding predicates_end
  signed_end at r e = rw e (signs-from (length (toks s) - at) at at (omega arith) (sign-none at))

  -- ---- postfixes

  pub record PostInv (at p k : ℕ) : Type 0 where
    pub from : at + k ≤ p
    pub within : (at ≡ p → ⊥) → p ≤ length (toks s)
    pub around : (level : Level) (t : Tree Span) → (u : Tree Span) × (Run level s (posts t at) ≡ Run level s (posts u p)) × Grown t u k 0

  pub post_start : (at : ℕ) → PostInv at at 0
  post_start at = record { from = omega arith; within = λ h. absurd (h refl); around = λ level t. (t, refl, grown_none t) }

  posts-on : (level : Level) (t : Tree Span) (i : ℕ) (v : Unary) (n : ℕ) → postfix_at s i ≡ post v n → Run level s (posts t i) ≡ Run level s (posts (postfixed (end s (n - 1)) v t) n)
  posts-on level t i v n e = posts_law level s t i ∙ ap (λ p. posts_by p (λ v n. Run level s (posts (postfixed (end s (n - 1)) v t) n)) (λ u. got t i)) e

  pub post_more : (at p k : ℕ) (r : Result (Option ℕ) Refusal) (n : ℕ) → r ≡ tail_of (postfix_at s p) → r ≡ Ok (Some n) → PostInv at p k → (p < n) × (n ≤ length (toks s)) × PostInv at n (k + 1)
  post_more at p k r n e q i =
      let (v, f) = was_past (postfix_at s p) r n e q in
      let h = postfix_past s p v n f in
      let l = i.from in (
        h.0,
        h.1,
        record {
          from = omega arith;
          within = λ m. h.1;
          around = λ level t.
              let (u, g, w) = i.around level t in
              let y = grown_after (end s (n - 1)) v u in
              (postfixed (end s (n - 1)) v u, g ∙ posts-on level u p v n f, record { counts = omega arith; sizes = omega arith });
        },
      )

  pub post_bad : (at p k : ℕ) (r : Result (Option ℕ) Refusal) (x : Refusal) → r ≡ tail_of (postfix_at s p) → r ≡ Err x → PostInv at p k → Posted s at (Err x)
  unfolding tailed
  post_bad at p k r x e q i = record {
    around = λ level t.
        let (u, g, w) = i.around level t in
        sum_refused (g ∙ posts_law level s u p ∙ ap (λ p₁. posts_by p₁ (λ v n. Run level s (posts (postfixed (end s (n - 1)) v u) n)) (λ _. got u p)) (was_bad (postfix_at s p) r x e q));
  }

  pub post_done : (at p k : ℕ) (r : Result (Option ℕ) Refusal) → r ≡ tail_of (postfix_at s p) → r ≡ Ok None → PostInv at p k → Posted s at (Ok (all_posts p k))
  unfolding tailed
  post_done at p k r e q i = record {
    around = λ level t.
        let (u, g, w) = i.around level t in
        let c = w.counts in
        let b = w.sizes in
        sum_got {t = u} p (count t + k) (size t) (g ∙ posts_law level s u p ∙ ap (λ p₁. posts_by p₁ (λ v n. Run level s (posts (postfixed (end s (n - 1)) v u) n)) (λ _. got u p)) (was_ended (postfix_at s p) r e q))
        refl (omega arith) (omega arith);
  }

-- what all postfixes came to
pub tails_all : (m : Parsed) (t : Tree Span) (r : Result Posts Refusal) (n k : ℕ) → tailed t r ≡ summary m → r ≡ Ok (all_posts n k) → (u : Tree Span) × (m ≡ got u n) × Grown t u k 0
unfolding tailed
tails_all m t (Ok p) n k e q =
    let h : ◌≡◌ {A = Posts} p (all_posts n k) = cc in
    let x : p.next ≡ n = ap (λ (v : Posts). v.next) h in
    let y : p.nodes ≡ k = ap (λ (v : Posts). v.nodes) h in
    let (u, f, c, b) = good m (Ok (piece p.next (count t + p.nodes) (size t))) p.next (count t + p.nodes) (size t) e refl in
    (u, f ∙ ap (got u) x, record { counts = omega arith; sizes = omega arith })
tails_all m t (Err x) n k e q = let z : ◌≡◌ {A = ℕ} 0 1 = cc in absurd (omega arith)

pub tails_bad : (m : Parsed) (t : Tree Span) (r : Result Posts Refusal) (x : Refusal) → tailed t r ≡ summary m → r ≡ Err x → m ≡ refused x
unfolding tailed
tails_bad m t (Ok p) x e q = let z : ◌≡◌ {A = ℕ} 0 1 = cc in absurd (omega arith)
tails_bad m t (Err y) x e q = let z : y ≡ x = cc in bad m (Err y) x e (ap Err z)

-- ---- what opens an expression

-- an expression in brackets, and what stands around it
pub record Bracketed (level : Level) (s : List ℕ) (at p k : ℕ) : Type 0 where
  pub from : at + k ≤ p
  pub one : k ≤ 1
  pub within : p < length (toks s)
  pub wrap : Tree Span → ℕ → Tree Span
  pub same : (o : ℕ) → Run level s (node o at) ≡ opened o s p (λ u. next (Run level s (expr (o + 1) (p + 1))) (λ t n. want refused s n 7 (λ m. got (wrap t n) m)))
  pub grown : (t : Tree Span) (n : ℕ) → Grown t (wrap t n) k 0

module _ (level : Level) (s : List ℕ) (at : ℕ) where
  grouped : is s at 6 ≡ true → Bracketed level s at at 0
  grouped e = record {
    from = omega arith;
    one = omega arith;
    within = inside_is s at 6 (omega arith) e;
    wrap = λ t n. ends_at t (end s n);
    same = λ o. node_law level s o at ∙ choose_true (is s at 6) _ _ e;
    grown = λ t n. grown_ends t (end s n);
  }

  pushes : is s at 6 ≡ false → spells push s at ≡ true → is s (at + 1) 6 ≡ true → Bracketed level s at (at + 1) 1
  pushes e f g = record {
    from = omega arith;
    one = omega arith;
    within = inside_is s (at + 1) 6 (omega arith) g;
    wrap = λ t n. prefixed (start s at) (plain Push) t;
    same = λ o. node_law level s o at ∙ choose_false (is s at 6) _ _ e ∙ choose_true (spells push s at) _ _ f ∙ want_true refused s (at + 1) 6 _ g;
    grown = λ t n. grown_before (start s at) Push t;
  }

  by_bracket : (p k : ℕ) (b₁ b₂ b₃ : Bool) → (b₁ ≡ true → Bracketed level s at at 0) → (b₁ ≡ false → b₂ ≡ true → b₃ ≡ true → Bracketed level s at (at + 1) 1)
      → choose b₁ (λ u. Opens at 0) (λ u. choose b₂ (λ u. choose b₃ (λ u. Opens (at + 1) 1) (λ u. Unopened)) (λ u. Nothing)) ≡ Opens p k → Bracketed level s at p k
  by_bracket p k true b₂ b₃ f g e =
      let x : at ≡ p = cc in
      let y : ◌≡◌ {A = ℕ} 0 k = cc in
      subst (λ (i : ℕ). Bracketed level s at p i) y (subst (λ (i : ℕ). Bracketed level s at i 0) x (f refl))
  by_bracket p k false true true f g e =
      let x : at + 1 ≡ p = cc in
      let y : ◌≡◌ {A = ℕ} 1 k = cc in
      subst (λ (i : ℕ). Bracketed level s at p i) y (subst (λ (i : ℕ). Bracketed level s at i 1) x (g refl refl refl))
  by_bracket p k false true false f g e = let z : ◌≡◌ {A = ℕ} 0 1 = cc in absurd (omega arith)
  by_bracket p k false false b₃ f g e = let z : ◌≡◌ {A = ℕ} 0 1 = cc in absurd (omega arith)

  pub was_open : (r : Bracket) (p k : ℕ) → r ≡ bracket_of s at → r ≡ Opens p k → Bracketed level s at p k
  unfolding bracket_of
  was_open r p k e q = by_bracket p k (is s at 6) (spells push s at) (is s (at + 1) 6) grouped pushes (sym e ∙ q)

  by_unopened : (b₁ b₂ b₃ : Bool) → choose b₁ (λ u. Opens at 0) (λ u. choose b₂ (λ u. choose b₃ (λ u. Opens (at + 1) 1) (λ u. Unopened)) (λ u. Nothing)) ≡ Unopened → (b₁ ≡ false) × (b₂ ≡ true) × (b₃ ≡ false)
  by_unopened false true false e = (refl, refl, refl)
  by_unopened true b₂ b₃ e = let z : ◌≡◌ {A = ℕ} 0 1 = cc in absurd (omega arith)
  by_unopened false true true e = let z : ◌≡◌ {A = ℕ} 0 1 = cc in absurd (omega arith)
  by_unopened false false b₃ e = let z : ◌≡◌ {A = ℕ} 0 1 = cc in absurd (omega arith)

  by_nothing : (b₁ b₂ b₃ : Bool) → choose b₁ (λ u. Opens at 0) (λ u. choose b₂ (λ u. choose b₃ (λ u. Opens (at + 1) 1) (λ u. Unopened)) (λ u. Nothing)) ≡ Nothing → (b₁ ≡ false) × (b₂ ≡ false)
  by_nothing false false b₃ e = (refl, refl)
  by_nothing true b₂ b₃ e = let z : ◌≡◌ {A = ℕ} 0 1 = cc in absurd (omega arith)
  by_nothing false true true e = let z : ◌≡◌ {A = ℕ} 0 1 = cc in absurd (omega arith)
  by_nothing false true false e = let z : ◌≡◌ {A = ℕ} 0 1 = cc in absurd (omega arith)

  pub was_unopened : (r : Bracket) → r ≡ bracket_of s at → r ≡ Unopened → (at < length (toks s)) × ((o : ℕ) → Run level s (node o at) ≡ refused (because NotAllowed (start s (at + 1))))
  unfolding bracket_of
  was_unopened r e q =
      let (f, g, h) = by_unopened (is s at 6) (spells push s at) (is s (at + 1) 6) (sym e ∙ q) in
      (spells_in push s at g, λ o. node_law level s o at ∙ choose_false (is s at 6) _ _ f ∙ choose_true (spells push s at) _ _ g ∙ want_false refused s (at + 1) 6 _ h)

  pub was_nothing : (r : Bracket) → r ≡ bracket_of s at → r ≡ Nothing → (o : ℕ) → Run level s (node o at) ≡ leaf_at o s at
  unfolding bracket_of
  was_nothing r e q o =
      let (f, g) = by_nothing (is s at 6) (spells push s at) (is s (at + 1) 6) (sym e ∙ q) in
      node_law level s o at ∙ choose_false (is s at 6) _ _ f ∙ choose_false (spells push s at) _ _ g

  -- what `bracket_of` answers
  module _ (x : ℕ) (e : x ≡ kind s at) where
    pub bracket_group : x ≡ 6 → Opens at 0 ≡ bracket_of s at
    unfolding bracket_of
    bracket_group q = sym (choose_true (is s at 6) _ _ (sees s at x 6 e q))

    module _ (q : x ≡ 6 → ⊥) (b : Bool) (f : b ≡ spells push s at) where
      pub bracket_nothing : b ≡ false → Nothing ≡ bracket_of s at
      unfolding bracket_of
      bracket_nothing g = sym (choose_false (is s at 6) _ _ (misses s at x 6 e q) ∙ choose_false (spells push s at) _ _ (sym f ∙ g))

      module _ (g : b ≡ true) where
        pub push_in : at < length (toks s)
        push_in = spells_in push s at (sym f ∙ g)

        module _ (y : ℕ) (h : y ≡ kind s (at + 1)) where
          pub bracket_push : y ≡ 6 → Opens (at + 1) 1 ≡ bracket_of s at
          unfolding bracket_of
          bracket_push l = sym (choose_false (is s at 6) _ _ (misses s at x 6 e q) ∙ choose_true (spells push s at) _ _ (sym f ∙ g) ∙ choose_true (is s (at + 1) 6) _ _ (sees s (at + 1) y 6 h l))

          pub bracket_unopened : (y ≡ 6 → ⊥) → Unopened ≡ bracket_of s at
          unfolding bracket_of
          bracket_unopened l = sym (choose_false (is s at 6) _ _ (misses s at x 6 e q) ∙ choose_true (spells push s at) _ _ (sym f ∙ g) ∙ choose_false (is s (at + 1) 6) _ _ (misses s (at + 1) y 6 h l))
