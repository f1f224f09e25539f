-- Every call that reads a tree passes at least as many `(` as the tree's short text has there: by induction over the descent.
use Rattle.std.specs.Prelude.{Some, None, Option}
use Prim.Native.Nat.{ℕ, zero, suc, ◌+◌, ◌-◌, ◌≤◌}
use mathlib.Core.Path.{◌≡◌, refl, sym, ap, ◌∙◌}
use mathlib.Core.Bool.{Bool, true, false}
use mathlib.Core.List.{List}
use native.Mathlib.Omega.{arith}
use Rattle.text.specs.Booleans.{choose}
use Rattle.text.specs.Words.{push}
use Rattle.text.proofs.Booleans.{split}
use Rattle.token.specs.Table.{start, end, is, word, label}
use Rattle.token.specs.Tokens.{push_literal}
use Rattle.table.specs.Tree.{Span, Atom, text, range, peek_slice, plain, Tree, leaf, one, ends_at, starts_at}
use Rattle.table.specs.declared.Join.TheVariants.{Seq, Choice}
use Rattle.table.specs.declared.Unary.{Unary}
use Rattle.table.specs.declared.Unary.TheVariants.{PosPred, NegPred, Opt, Rep, RepOnce, RepExact, RepMin, RepMax, RepMinMax, Push}
use Rattle.table.specs.declared.Sort.TheVariants.{Str, Insens, Ident, PushLiteral}
use Rattle.forms.specs.declared.Place.{Place}
use Rattle.forms.specs.declared.Place.TheVariants.{Alone, Prefixed, Operand, LeftOf, RightOf}
use Rattle.forms.specs.declared.Form.TheVariants as Form
use Rattle.forms.specs.Printing.{unary_form}
use Rattle.structure.specs.declared.Level.{Level}
use Rattle.structure.specs.declared.Level.TheVariants.{Tagged, Plain}
use Rattle.structure.specs.Tokens.{across, spells}
use Rattle.structure.specs.Values.{is_integer, integer, string, character}
use Rattle.structure.specs.Structure.{Parsed, got, refused, next, want, join, closed, prefixed, postfixed, in_tag, post, from_number, from_comma, postfix_at, slice_to, slice, pushed, ranged, slices, leaf_at, Call, expr, term, signed, node, chain, posts, body, place, weight, run, Run}
use Rattle.structure.proofs.Steps.{no_tree, next_got, want_got, want_post, opened_got, posts_by_lem}
use Rattle.structure.proofs.Fuel.{postfix_past}
use Rattle.forms.specs.Printing.{brackets}
use Rattle.promises.specs.Styled.{marked}
use Rattle.promises.specs.Marked.{atom_depth, opens}
use Rattle.promises.specs.Fewest.{opens_to, need}
use Rattle.promises.proofs.Needs.{need_more, need_one, need_placed, opens_step, opens_here, opens_more}

-- ---- a postfix is a postfix

posts_form : {u v : Unary} {m n : ℕ} → post u m ≡ post v n → unary_form u ≡ Form.Postfix → unary_form v ≡ Form.Postfix
posts_form {u} {v} e f = let z : u ≡ v = cc in ap unary_form (sym z) ∙ f

module _ (s : List ℕ) where
  number_form : (i : ℕ) (v : Unary) (n : ℕ) → from_number s i ≡ post v n → unary_form v ≡ Form.Postfix
  unfolding from_number
  number_form i v n e =
      split (is s (i + 1) 3) _ _ (λ a e₀. posts_form e₀ refl)
      (λ a e₀.
      let (b, p, e₁) = want_post s (i + 1) 15 _ (omega arith) e₀ in
      split (is s (i + 1 + 1) 3) _ _ (λ c e₂. posts_form e₂ refl)
      (λ c e₂.
      let (d, q, e₃) = want_post s (i + 1 + 1) 20 _ (omega arith) e₂ in
      let (f, r, e₄) = want_post s (i + 1 + 1 + 1) 3 _ (omega arith) e₃ in
      posts_form e₄ refl) e₁) e

  comma_form : (i : ℕ) (v : Unary) (n : ℕ) → from_comma s i ≡ post v n → unary_form v ≡ Form.Postfix
  unfolding from_comma
  comma_form i v n e =
      let (a, p, e₁) = want_post s i 15 _ (omega arith) e in
      let (b, q, e₂) = want_post s (i + 1) 20 _ (omega arith) e₁ in
      let (c, r, e₃) = want_post s (i + 1 + 1) 3 _ (omega arith) e₂ in
      posts_form e₃ refl

  postfix_form : (i : ℕ) (v : Unary) (n : ℕ) → postfix_at s i ≡ post v n → unary_form v ≡ Form.Postfix
  unfolding postfix_at
  postfix_form i v n e =
      split (is s i 12) _ _ (λ a e₀. posts_form e₀ refl)
      (λ a. split (is s i 13) _ _ (λ b e₀. posts_form e₀ refl)
      (λ b. split (is s i 14) _ _ (λ c e₀. posts_form e₀ refl)
      (λ c. split (is s i 2) _ _
      (λ d e₀. split (is s (i + 1) 20) _ _ (λ f e₁. number_form (i + 1) v n e₁) (λ f e₁. comma_form (i + 1) v n e₁) e₀)
      (λ d e₀. let z : ◌≡◌ {A = ℕ} 0 1 = cc in absurd (omega arith))))) e

-- it needs what it stands behind needs
need_post : (p : Span) (v : Unary) (t : Tree Span) → unary_form v ≡ Form.Postfix → need Operand (one p (plain v) t) ≡ need Operand t
unfolding marked opens brackets
need_post p PosPred t h = let z : ◌≡◌ {A = ℕ} 0 1 = cc in absurd (omega arith)
need_post p NegPred t h = let z : ◌≡◌ {A = ℕ} 0 1 = cc in absurd (omega arith)
need_post p Push t h = let z : ◌≡◌ {A = ℕ} 0 1 = cc in absurd (omega arith)
need_post p Opt t h = omega arith
need_post p Rep t h = omega arith
need_post p RepOnce t h = omega arith
need_post p (RepExact n) t h = omega arith
need_post p (RepMin n) t h = omega arith
need_post p (RepMax n) t h = omega arith
need_post p (RepMinMax n m) t h = omega arith

-- ---- leaves

need_leaf : (p : Span) (a : Atom) → need Operand (leaf p a) ≡ atom_depth a
unfolding marked opens brackets
need_leaf p (text k b) = omega arith
need_leaf p (range x y) = omega arith
need_leaf p (peek_slice x e) = omega arith

module _ (s : List ℕ) (at : ℕ) where
  abbrev Leafs : Tree Span → ℕ → Type 0
  Leafs t n = opens_to s at + need Operand t ≤ opens_to s n

  leaf_is : (m : ℕ) (p : Span) (a : Atom) {t : Tree Span} {n : ℕ} → opens_to s at + atom_depth a ≤ opens_to s m → got (leaf p a) m ≡ got t n → Leafs t n
  leaf_is m p a {t} {n} h e =
      let z : m ≡ n = cc in
      let y : leaf p a ≡ t = cc in
      omega (arith, ap (opens_to s) z, ap (need {P = Span} Operand) y, need_leaf p a)

  slice_to_lem : (from i : ℕ) {t : Tree Span} {n : ℕ} → at ≤ i → slice_to s at from i ≡ got t n → Leafs t n
  unfolding slice_to
  slice_to_lem from i h e =
      split (is_integer s i) _ _
      (λ a e₀. let (b, p, e₁) = want_got s (i + 1) 5 _ (omega arith) e₀ in leaf_is (i + 1 + 1) (across s at (i + 1)) (peek_slice from (Some (integer s i))) (omega (arith, opens_more s at (i + 1 + 1) (omega arith))) e₁)
      (λ a e₀. let (b, p, e₁) = want_got s i 5 _ (omega arith) e₀ in leaf_is (i + 1) (across s at i) (peek_slice from None) (omega (arith, opens_more s at (i + 1) (omega arith))) e₁) e

  slice_leaf : (i : ℕ) {t : Tree Span} {n : ℕ} → at ≤ i → slice s at i ≡ got t n → Leafs t n
  unfolding slice
  slice_leaf i h e =
      split (is_integer s i) _ _
      (λ a e₀. let (b, p, e₁) = want_got s (i + 1) 22 _ (omega arith) e₀ in slice_to_lem (integer s i) (i + 1 + 1) (omega arith) e₁)
      (λ a e₀. let (b, p, e₁) = want_got s i 22 _ (omega arith) e₀ in slice_to_lem 0 (i + 1) (omega arith) e₁) e

  pushed_leaf : (o : ℕ) {t : Tree Span} {n : ℕ} → pushed o s at ≡ got t n → Leafs t n
  unfolding pushed
  pushed_leaf o e =
      let (a, p, e₁) = want_got s (at + 1) 6 _ (omega arith) e in
      let (b, e₂) = opened_got o s (at + 1) _ e₁ in
      let (c, q, e₃) = want_got s (at + 1 + 1) 23 _ (omega arith) e₂ in
      let (d, r, e₄) = want_got s (at + 1 + 1 + 1) 7 _ (omega arith) e₃ in
      leaf_is (at + 1 + 1 + 1 + 1) (across s (at + 1 + 1) (at + 1 + 1)) (text PushLiteral (string s (at + 1 + 1)))
      (omega (arith, opens_step s at, opens_here s (at + 1) a, opens_more s (at + 1 + 1) (at + 1 + 1 + 1 + 1) (omega arith))) e₄

  ranged_leaf : {t : Tree Span} {n : ℕ} → ranged s at ≡ got t n → Leafs t n
  unfolding ranged
  ranged_leaf e =
      let (a, p, e₁) = want_got s (at + 1) 22 _ (omega arith) e in
      let (b, q, e₂) = want_got s (at + 1 + 1) 25 _ (omega arith) e₁ in
      leaf_is (at + 1 + 1 + 1) (across s at (at + 1 + 1)) (range (character s at) (character s (at + 1 + 1))) (omega (arith, opens_more s at (at + 1 + 1 + 1) (omega arith))) e₂

  leaf_least : (o : ℕ) {t : Tree Span} {n : ℕ} → leaf_at o s at ≡ got t n → Leafs t n
  unfolding leaf_at
  leaf_least o e =
      split (spells push_literal s at) _ _ (λ a e₀. pushed_leaf o e₀)
      (λ a. split (slices s at) _ _ (λ b e₀. slice_leaf (at + 2) (omega arith) e₀)
      (λ b. split (is s at 18) _ _ (λ c e₀. leaf_is (at + 1) (across s at at) (text Ident (word s at)) (omega (arith, opens_step s at)) e₀)
      (λ c. split (is s at 23) _ _ (λ d e₀. leaf_is (at + 1) (across s at at) (text Str (string s at)) (omega (arith, opens_step s at)) e₀)
      (λ d. split (is s at 24) _ _ (λ f e₀. leaf_is (at + 1) (across s at at) (text Insens (string s at)) (omega (arith, opens_step s at)) e₀)
      (λ f. split (is s at 25) _ _ (λ g e₀. ranged_leaf e₀) (λ g e₀. no_tree e₀)))))) e

-- ---- calls

-- the level at which a call reads, and what it was handed
abbrev asks : Call → Place
asks (expr o at) = Alone
asks (chain o c l at) = Alone
asks (term o at) = RightOf Seq
asks (signed o at) = Prefixed
asks (node o at) = Operand
asks (posts t at) = Operand

abbrev chained : Option (Tree Span) → Tree Span → ℕ
chained None l = need (LeftOf Seq) l
chained (Some c) l = need Alone c + need (LeftOf Seq) l

abbrev handed : Call → ℕ
handed (expr o at) = 0
handed (chain o c l at) = chained c l
handed (term o at) = 0
handed (signed o at) = 0
handed (node o at) = 0
handed (posts t at) = need Operand t

module _ (level : Level) (s : List ℕ) where
  abbrev Least : Call → Tree Span → ℕ → Type 0
  Least c t n = opens_to s (place c) + need (asks c) t ≤ opens_to s n + handed c

  abbrev Leasts : (Call → Parsed) → Type 0
  Leasts go = (d : Call) (t : Tree Span) (n : ℕ) → go d ≡ got t n → Least d t n

  -- what stands before a `|`, and at a chain's end
  closed_need : (c : Option (Tree Span)) (l : Tree Span) → need Alone (closed c l) ≤ chained c l
  unfolding closed join marked opens brackets
  closed_need None l = need_more Alone (LeftOf Seq) l (omega arith)
  closed_need (Some c) l = omega (arith, need_more (LeftOf Choice) Alone c (omega arith), need_more (RightOf Choice) (LeftOf Seq) l (omega arith))

  join_need : (c : Option (Tree Span)) (l r : Tree Span) → chained c (join Seq l r) ≡ chained c l + need (RightOf Seq) r
  unfolding join marked opens brackets
  join_need None l r = omega arith
  join_need (Some c) l r = omega arith

  tag_need : (level : Level) (a : ℕ) (b : List ℕ) (t : Tree Span) → need (RightOf Seq) (in_tag level a b t) ≤ need Prefixed t
  unfolding in_tag prefixed marked opens brackets
  tag_need Tagged a b t = omega arith
  tag_need Plain a b t = need_more (RightOf Seq) Prefixed t (omega arith)

  pos_need : (a : ℕ) (t : Tree Span) → need Prefixed (prefixed a (plain PosPred) t) ≡ need Prefixed t
  unfolding prefixed marked opens brackets
  pos_need a t = omega arith

  neg_need : (a : ℕ) (t : Tree Span) → need Prefixed (prefixed a (plain NegPred) t) ≡ need Prefixed t
  unfolding prefixed marked opens brackets
  neg_need a t = omega arith

  push_need : (a : ℕ) (t : Tree Span) → need Operand (prefixed a (plain Push) t) ≡ need Alone t + 1
  unfolding prefixed marked opens brackets
  push_need a t = omega arith

  after_need : (v : Unary) (t : Tree Span) → unary_form v ≡ Form.Postfix → (z : ℕ) → need Operand (postfixed z v t) ≡ need Operand t
  unfolding postfixed
  after_need v t f z = need_post _ v t f

  ends_need : (w : Place) (t : Tree Span) (z : ℕ) → need w (ends_at t z) ≡ need w t
  unfolding ends_at
  ends_need w t z = need_placed w _ t

  starts_need : (w : Place) (b : Bool) (t : Tree Span) (a : ℕ) → need w (choose b (λ u. starts_at t a) (λ u. t)) ≡ need w t
  unfolding starts_at
  starts_need w true t a = need_placed w _ t
  starts_need w false t a = refl

  module _ (go : Call → Parsed) (ih : Leasts go) where
    -- a term after an operator, and the rest of the chain
    joined_least : (o at : ℕ) (c : Option (Tree Span)) (l : Tree Span) (cs : Tree Span → Option (Tree Span)) (ls : Tree Span → Tree Span) (t : Tree Span) (n : ℕ)
        → ((r : Tree Span) → chained (cs r) (ls r) ≤ chained c l + need (RightOf Seq) r)
        → next (go (term o (at + 1))) (λ r m. go (chain o (cs r) (ls r) m)) ≡ got t n → Least (chain o c l at) t n
    joined_least o at c l cs ls t n x e =
        let (u, i, e₁, e₂) = next_got _ _ e in
        omega (arith, ih (term o (at + 1)) u i e₁, ih (chain o (cs u) (ls u) i) t n e₂, x u, opens_step s at)

    -- a predicate
    signed_least : (o at : ℕ) (v : Unary) (t : Tree Span) (n : ℕ) → ((a : ℕ) (x : Tree Span) → need Prefixed (prefixed a (plain v) x) ≡ need Prefixed x)
        → next (go (signed o (at + 1))) (λ x m. got (prefixed (start s at) (plain v) x) m) ≡ got t n → Least (signed o at) t n
    signed_least o at v t n g e =
        let (u, i, e₁, e₂) = next_got _ _ e in
        let a : prefixed (start s at) (plain v) u ≡ t = cc in
        let b : i ≡ n = cc in
        omega (arith, ih (signed o (at + 1)) u i e₁, ap (need {P = Span} Prefixed) a, ap (opens_to s) b, g (start s at) u, opens_step s at)

    -- an expression in brackets, from i on, behind one `(`
    bracket_least : (o at i : ℕ) (f : Tree Span → ℕ → Tree Span) (t : Tree Span) (n : ℕ) → opens_to s at + 1 ≤ opens_to s i → ((x : Tree Span) (m : ℕ) → need Operand (f x m) ≤ need Alone x + 1)
        → next (go (expr (o + 1) i)) (λ x m. want refused s m 7 (λ j. got (f x m) j)) ≡ got t n → Least (node o at) t n
    bracket_least o at i f t n h g e =
        let (u, j, e₁, e₂) = next_got _ _ e in
        let (v, m, e₃) = want_got s j 7 _ (omega arith) e₂ in
        let a : f u j ≡ t = cc in
        let b : j + 1 ≡ n = cc in
        omega (arith, ih (expr (o + 1) i) u j e₁, ap (need {P = Span} Operand) a, ap (opens_to s) b, g u j, opens_step s j)

    body_least : Leasts (body level s go)
    unfolding body closed
    body_least (expr o at) t n e =
        let (u, i, e₁, e₂) = next_got _ _ e in
        omega (arith, ih (term o at) u i e₁, ih (chain o None u i) t n e₂, need_more (LeftOf Seq) (RightOf Seq) u (omega arith))
    body_least (chain o c l at) t n e =
        split (is s at 10) _ _
        (λ v e₀. joined_least o at c l (λ r. c) (λ r. join Seq l r) t n (λ r. omega (arith, join_need c l r)) e₀)
        (λ v. split (is s at 11) _ _
        (λ v e₀. joined_least o at c l (λ r. Some (closed c l)) (λ r. r) t n (λ r. omega (arith, closed_need c l, need_more (LeftOf Seq) (RightOf Seq) r (omega arith))) e₀)
        (λ v e₀.
        let a : closed c l ≡ t = cc in
        let b : at ≡ n = cc in
        omega (arith, ap (need {P = Span} Alone) a, ap (opens_to s) b, closed_need c l))) e
    body_least (term o at) t n e =
        split (is s at 19) _ _
        (λ v e₀.
        let (v₁, m, e₁) = want_got s (at + 1) 1 _ (omega arith) e₀ in
        let (u, i, e₂, e₃) = next_got _ _ e₁ in
        let a : in_tag level (start s at) (label s at) u ≡ t = cc in
        let b : i ≡ n = cc in
        omega (arith, ih (signed o (at + 1 + 1)) u i e₂, ap (need {P = Span} (RightOf Seq)) a, ap (opens_to s) b, tag_need level (start s at) (label s at) u, opens_step s at, opens_step s (at + 1)))
        (λ v e₀. omega (arith, ih (signed o at) t n e₀, need_more (RightOf Seq) Prefixed t (omega arith))) e
    body_least (signed o at) t n e =
        split (is s at 8) _ _ (λ v e₀. signed_least o at PosPred t n pos_need e₀)
        (λ v. split (is s at 9) _ _ (λ v e₀. signed_least o at NegPred t n neg_need e₀)
        (λ v e₀.
        let (u, i, e₁, e₂) = next_got _ _ e₀ in
        let (x, j, e₃, e₄) = next_got _ _ e₂ in
        let a : choose (is s at 6) (λ u. starts_at x (start s at)) (λ u. x) ≡ t = cc in
        let b : j ≡ n = cc in
        omega (
          arith,
          ih (node o at) u i e₁,
          ih (posts u i) x j e₃,
          ap (need {P = Span} Prefixed) a,
          ap (opens_to s) b,
          starts_need Prefixed (is s at 6) x (start s at),
          need_more Prefixed Operand x (omega arith),
        ))) e
    body_least (node o at) t n e =
        split (is s at 6) _ _
        (λ v e₀.
        let (h, e₁) = opened_got o s at _ e₀ in
        bracket_least o at (at + 1) (λ x m. ends_at x (end s m)) t n (omega (arith, opens_here s at v)) (λ x m. omega (arith, ends_need Operand x (end s m), need_one Alone Operand x)) e₁)
        (λ v. split (spells push s at) _ _
        (λ v e₀.
        let (v₁, m, e₁) = want_got s (at + 1) 6 _ (omega arith) e₀ in
        let (h, e₂) = opened_got o s (at + 1) _ e₁ in
        bracket_least o at (at + 1 + 1) (λ x m. prefixed (start s at) (plain Push) x) t n (omega (arith, opens_step s at, opens_here s (at + 1) v₁)) (λ x m. omega (arith, push_need (start s at) x)) e₂)
        (λ v e₀. omega (arith, leaf_least s at o e₀))) e
    body_least (posts u at) t n e =
        posts_by_lem (postfix_at s at) _ _
        (λ v m e₀ e₁.
        let h = postfix_past s at v m e₀ in
        omega (arith, ih (posts (postfixed (end s (m - 1)) v u) m) t n e₁, after_need v u (postfix_form s at v m e₀) (end s (m - 1)), opens_more s at m (omega arith)))
        (λ v e₀.
        let a : u ≡ t = cc in
        let b : at ≡ n = cc in
        omega (arith, ap (need {P = Span} Operand) a, ap (opens_to s) b)) e

  run_least : (k : ℕ) → Leasts (run level s k)
  unfolding run
  run_least zero c t n e = no_tree e
  run_least (suc k) c t n e = body_least (run level s k) (run_least k) c t n e

  -- whatever is read as a tree has at least its brackets
  pub least : (c : Call) (t : Tree Span) (n : ℕ) → Run level s c ≡ got t n → Least c t n
  unfolding Run
  least c t n e = run_least (suc (weight s c)) c t n e
