-- The steps of the loops that write predicates and postfixes, and a choice that is pending.
use Rattle.std.specs.Prelude.{ℕ, Option, Some, None}
use Prim.Native.Nat.{ℕ, zero, suc, ◌+◌, ◌-◌, ◌*◌, ◌≤◌, ◌<◌}
use mathlib.Core.Path.{◌≡◌, refl, sym, ap, ◌∙◌}
use mathlib.Core.Bool.{Bool, true, false}
use mathlib.Core.List.{List, []}
use native.Mathlib.Omega.{arith}
use lib.ListN.{length}
use lib.Seq.{sets}
use Rattle.text.specs.Limits.{max_text}
use Rattle.token.specs.Table.{toks, kind, start, end}
use Rattle.token.proofs.Table.{low}
use Rattle.table.specs.declared.Unary.{Unary}
use Rattle.table.specs.declared.Unary.TheVariants.{PosPred, NegPred}
use Rattle.table.specs.declared.Op.TheVariants.{Plain}
use Rattle.table.specs.declared.Node.TheVariants.{One}
use Rattle.table.specs.Tree.{Span, plain, Tree, one, below, count, stored, place_of}
use Rattle.table.specs.Record.{node_size}
use Rattle.table.specs.Flat.{no_line, record_of, flat}
use Rattle.structure.specs.declared.Level.{Level}
use Rattle.structure.specs.Answers.{sign_of, predicates}
use Rattle.structure.specs.Structure.{got, prefixed, postfixed, posts, Run, Postfix, post, not_post, no_post, postfix_at, posts_by}
use Rattle.structure.proofs.Steps.{sees, misses, no_tree}
use Rattle.structure.proofs.Fuel.{went, postfix_past}
use Rattle.structure.proofs.Checks.{grown_signs}
use Rattle.structure.proofs.Grammar.{posts_law}
use Rattle.build.specs.Build.{SignsRoom, SignsPut, PostsRoom, PostsPut, Accepted, suffix_of, chosen_end, chosen_of, ChoiceRoom}
use Rattle.records.specs.Records.{written, most, Over}
use Rattle.records.proofs.Patches.{spanned, length_written}
use Rattle.build.proofs.Lays.{one_laid}

-- a record over a tree's records
pub one_holds : (o tbl tbl' : List ℕ) (t : Tree Span) (f free : ℕ) (s : Span) (u : Unary) (g c : ℕ) → tbl ≡ written o f (flat no_line f free t) → g ≡ f + count t → c ≡ f + below t
    → tbl' ≡ written tbl g (record_of no_line s (One (Plain u) c)) → tbl' ≡ written o f (flat no_line f free (one s (plain u) t))
one_holds o tbl tbl' t f free s u g c e e₁ e₂ q =
    (one_laid o [] f free t tbl (sets [] free (stored t)) tbl' s u g c (record { holds = e; keeps = refl }) e₁ e₂ q).holds

-- ---- predicates

pub sign_yes : (s : List ℕ) (i x : ℕ) → x ≡ kind s i → x ≡ 8 → PosPred ≡ sign_of s i
sign_yes s i x e h = sym (rw (sees s i x 8 e h))

pub sign_no : (s : List ℕ) (i x : ℕ) → x ≡ kind s i → (x ≡ 8 → ⊥) → NegPred ≡ sign_of s i
sign_no s i x e h = sym (rw (misses s i x 8 e h))

pub stop_signs : (s : List ℕ) (at k : ℕ) (t : Tree Span) → (place_of (predicates s at k t)).stop ≡ (place_of t).stop
unfolding predicates prefixed
stop_signs s at zero t = refl
stop_signs s at (suc k) t = stop_signs s (at + 1) k t

abbrev pub SignsInv : List ℕ → List ℕ → ℕ → ℕ → ℕ → ℕ → List ℕ → ℕ → ℕ → Type 0
SignsInv s table at last z used tbl i u = (at ≤ i) × (i ≤ last) × (u ≡ used + (last - i)) × SignsPut s i last z used table tbl

pub signs_start : (s table : List ℕ) (at last z used : ℕ) → SignsRoom table at last z used → SignsInv s table at last z used table last used
unfolding predicates
signs_start s table at last z used g =
    let n : last - last ≡ 0 = omega arith in (
      g.from,
      omega arith,
      omega arith,
      record {
        long = refl;
        same = λ o t f free e q h. h ∙ ap (λ (k : ℕ). written o f (flat no_line f free (predicates s last k t))) (sym n);
      },
    )

module _ (s table : List ℕ) (at last z used : ℕ) (short : length s ≤ max_text) (g : SignsRoom table at last z used) (tbl : List ℕ) (i u : ℕ) (v : SignsInv s table at last z used tbl i u) (h : at < i) where
  pub signs_over : (a : ℕ) → a ≡ start s (i - 1) → Over tbl u a z
  signs_over a e =
      let l = low s (i - 1) in
      let n = v.3.long in
      let r = g.room in
      let f = g.few in
      let x = v.0 in
      let y = v.1 in
      let w = v.2 in
      record { room = omega arith; from = omega arith; to = g.to; few = omega arith; after = (let k = g.after in omega arith) }

  pub signs_more : (a : ℕ) (p : Unary) (tbl' : List ℕ) → a ≡ start s (i - 1) → p ≡ sign_of s (i - 1) → tbl' ≡ written tbl u (record_of no_line (spanned a z) (One (Plain p) (u - 1)))
      → SignsInv s table at last z used tbl' (i - 1) (u + 1)
  unfolding predicates prefixed
  signs_more a p tbl' e₁ e₂ q =
      let x = v.0 in
      let y = v.1 in
      let w = v.2 in
      let n : suc (last - i) ≡ last - (i - 1) = omega arith in
      let m : i - 1 + 1 ≡ i = omega arith in (
        omega arith,
        omega arith,
        omega arith,
        record {
          long = ap length q ∙ length_written tbl u (record_of no_line (spanned a z) (One (Plain p) (u - 1))) ∙ v.3.long;
          same = λ o t f free e k b.
              let t' = predicates s i (last - i) t in
              let c = (grown_signs s i (last - i) t).counts in
              let d = stop_signs s i (last - i) t in
              let r : tbl' ≡ written tbl u (record_of no_line (spanned (start s (i - 1)) (place_of t').stop) (One (Plain (sign_of s (i - 1))) (u - 1))) =
              q ∙ ap (λ (j : ℕ). written tbl u (record_of no_line (spanned j z) (One (Plain p) (u - 1)))) e₁
              ∙ ap (λ (j : ℕ). written tbl u (record_of no_line (spanned (start s (i - 1)) j) (One (Plain p) (u - 1)))) (sym k ∙ sym d)
              ∙ ap (λ (j : Unary). written tbl u (record_of no_line (spanned (start s (i - 1)) (place_of t').stop) (One (Plain j) (u - 1)))) e₂ in
              one_holds o tbl tbl' t' f free (spanned (start s (i - 1)) (place_of t').stop) (sign_of s (i - 1)) u (u - 1) (v.3.same o t f free e k b) (omega arith) (omega arith) r
              ∙ ap (λ (j : ℕ). written o f (flat no_line f free (one (record { start = start s (i - 1); stop = (place_of (predicates s j (last - i) t)).stop }) (plain (sign_of s (i - 1))) (predicates s j (last - i) t)))) (sym m)
              ∙ ap (λ (j : ℕ). written o f (flat no_line f free (predicates s (i - 1) j t))) n;
        },
      )

-- ---- a choice

pub choice_over : (table : List ℕ) (chosen : Bool) (left used a z : ℕ) → ChoiceRoom table chosen left used a z → chosen ≡ true → Over table used a z × (left ≤ most)
choice_over table chosen left used a z g e =
    let r : node_size * (used + 1) ≤ length table = rw (e) at g.room in
    let f = g.few in
    (record { room = omega arith; from = g.from; to = g.to; few = omega arith; after = g.after }, g.child)

pub choice_no : (table : List ℕ) (chosen : Bool) (left used a z : ℕ) → chosen ≡ false → (used ≡ chosen_end chosen used) × (table ≡ written table used (chosen_of chosen left used a z))
unfolding written
choice_no table chosen left used a z e =
    (sym (ap (λ (b : Bool). chosen_end b used) e), sym (ap (λ (b : Bool). written table used (chosen_of b left used a z)) e))

-- ---- postfixes

-- what a tree is after some postfixes
pub record Along (level : Level) (s table : List ℕ) (at used from : ℕ) (t : Tree Span) (tbl : List ℕ) (i u z : ℕ) : Type 0 where
  pub tree : Tree Span
  pub read : Run level s (posts t at) ≡ Run level s (posts tree i)
  pub used_is : u + count t ≡ used + count tree
  pub grows : used ≤ u
  pub from_is : from ≡ (place_of tree).start
  pub to_is : z ≡ (place_of tree).stop
  pub kept : stored tree ≡ stored t
  pub holds : (o : List ℕ) (f free : ℕ) → used ≡ f + count t → table ≡ written o f (flat no_line f free t) → tbl ≡ written o f (flat no_line f free tree)

pub record PostsInv (s table : List ℕ) (at used from to : ℕ) (tbl : List ℕ) (i u z : ℕ) : Type 0 where
  pub long : length tbl ≡ length table
  pub stop : z ≤ most
  pub same : (level : Level) (t : Tree Span) → from ≡ (place_of t).start → to ≡ (place_of t).stop → Along level s table at used from t tbl i u z

was_post : (p : Postfix) (r : Option (Unary × ℕ)) (v : Unary) (n : ℕ) → r ≡ suffix_of p → r ≡ Some (v, n) → p ≡ post v n
unfolding suffix_of
was_post (post w m) r v n e q = let h : ◌≡◌ {A = Unary × ℕ} (w, m) (v, n) = cc in ap (λ (z : Unary × ℕ). post z.0 z.1) h
was_post (not_post x) r v n e q = let z : ◌≡◌ {A = ℕ} 0 1 = cc in absurd (omega arith)
was_post no_post r v n e q = let z : ◌≡◌ {A = ℕ} 0 1 = cc in absurd (omega arith)

was_none : (p : Postfix) (r : Option (Unary × ℕ)) → Accepted p → r ≡ suffix_of p → r ≡ None → p ≡ no_post
unfolding suffix_of
was_none (post w m) r v e q = let z : ◌≡◌ {A = ℕ} 0 1 = cc in absurd (omega arith)
was_none (not_post x) r v e q = absurd (v.good x refl)
was_none no_post r v e q = refl

module _ (s table : List ℕ) (at used from to : ℕ) (short : length s ≤ max_text) (g : PostsRoom s table at used from to) (tbl : List ℕ) (i u z : ℕ) (v : PostsInv s table at used from to tbl i u z) where
  now : Along g.level s table at used from g.tree tbl i u z
  now = v.same g.level g.tree g.from_is g.to_is

  -- no postfix is refused, since all is read
  pub posts_sound : Accepted (postfix_at s i)
  posts_sound = record {
    good = λ x q. no_tree (sym (posts_law g.level s now.tree i ∙ ap (λ (b : Postfix). posts_by b (λ p m. Run g.level s (posts (postfixed (end s (m - 1)) p now.tree) m)) (λ _. got now.tree i)) q)
        ∙ sym now.read ∙ g.read);
  }

  module _ (r : Option (Unary × ℕ)) (e : r ≡ suffix_of (postfix_at s i)) where
    module _ (p : Unary) (n : ℕ) (q : r ≡ Some (p, n)) where
      is_post : postfix_at s i ≡ post p n
      is_post = was_post (postfix_at s i) r p n e q

      pub post_past : (i < n) × (n ≤ length (toks s))
      post_past = postfix_past s i p n is_post

      post_read : (level : Level) (t : Tree Span) → Run level s (posts t i) ≡ Run level s (posts (postfixed (end s (n - 1)) p t) n)
      post_read level t =
          posts_law level s t i ∙ ap (λ (x : Postfix). posts_by x (λ w m. Run level s (posts (postfixed (end s (m - 1)) w t) m)) (λ _. got t i)) is_post

      count_after : (k : ℕ) (t : Tree Span) → count (postfixed k p t) ≡ count t + 1
      unfolding postfixed below
      count_after k t = omega arith

      post_room : u + 1 + count g.tree ≤ used + count g.out
      post_room =
          let w = now in
          let t = postfixed (end s (n - 1)) p w.tree in
          let k = went g.level s (posts t n) g.out g.end (sym (w.read ∙ post_read g.level w.tree) ∙ g.read) in
          let c = count_after (end s (n - 1)) w.tree in
          let m = k.more in
          let x = w.used_is in
          omega arith

      pub post_over : (z' : ℕ) → z' ≡ end s (n - 1) → Over tbl u from z'
      post_over z' k =
          let h = post_room in
          let l = low s (n - 1) in
          let m = v.long in
          let x = g.room in
          let y = g.few in
          let c = now.used_is in
          let a = g.after in
          let b = now.grows in
          record { room = omega arith; from = g.start; to = omega arith; few = omega arith; after = omega arith }

      pub posts_more : (z' : ℕ) (tbl' : List ℕ) → z' ≡ end s (n - 1) → tbl' ≡ written tbl u (record_of no_line (spanned from z') (One (Plain p) (u - 1)))
          → PostsInv s table at used from to tbl' n (u + 1) z'
      unfolding postfixed stored
      posts_more z' tbl' k q₁ =
          let l = low s (n - 1) in
          record {
            long = ap length q₁ ∙ length_written tbl u (record_of no_line (spanned from z') (One (Plain p) (u - 1))) ∙ v.long;
            stop = omega arith;
            same = λ level t e₁ e₂.
                let w = v.same level t e₁ e₂ in
                let x = w.tree in
                let c = w.used_is in
                let d = count_after (end s (n - 1)) x in
                record {
                  tree = postfixed (end s (n - 1)) p x;
                  read = w.read ∙ post_read level x;
                  used_is = omega arith;
                  grows = (let b = w.grows in omega arith);
                  from_is = w.from_is;
                  to_is = k;
                  kept = w.kept;
                  holds = λ o f free a b.
                      one_holds o tbl tbl' x f free (spanned (place_of x).start (end s (n - 1))) p u (u - 1) (w.holds o f free a b) (omega arith) (omega arith)
                      (q₁ ∙ ap (λ (j : ℕ). written tbl u (record_of no_line (spanned j z') (One (Plain p) (u - 1)))) w.from_is
                      ∙ ap (λ (j : ℕ). written tbl u (record_of no_line (spanned (place_of x).start j) (One (Plain p) (u - 1)))) k);
                };
          }

    pub posts_done : r ≡ None → PostsPut s at used from to table (record { next = i; used = u; to = z }) tbl
    posts_done q =
        record {
          long = v.long;
          stop = v.stop;
          same = λ level t e₁ e₂ x n k.
              let w = v.same level t e₁ e₂ in
              let y = w.tree in
              let h : Run level s (posts y i) ≡ got y i = posts_law level s y i ∙ ap (λ (b : Postfix). posts_by b (λ p m. Run level s (posts (postfixed (end s (m - 1)) p y) m)) (λ _. got y i)) (was_none (postfix_at s i) r posts_sound e q) in
              let m : got y i ≡ got x n = sym h ∙ sym w.read ∙ k in
              let a : y ≡ x = cc m in
              let b : i ≡ n = cc m in
              let c = ap (count {P = Span}) a in
              let d = w.used_is in
              record {
                next_is = b;
                used_is = omega arith;
                from_is = w.from_is ∙ ap (λ (τ : Tree Span). (place_of τ).start) a;
                to_is = w.to_is ∙ ap (λ (τ : Tree Span). (place_of τ).stop) a;
                kept = sym (ap (stored {P = Span}) a) ∙ w.kept;
                holds = λ o f free p₁ p₂. w.holds o f free p₁ p₂ ∙ ap (λ (τ : Tree Span). written o f (flat no_line f free τ)) a;
              };
        }
