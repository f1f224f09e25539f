-- Where a reading ends and what it adds, and that more fuel than enough changes nothing: `law`.
use Rattle.std.specs.Prelude.{Some, None, Option}
use Prim.Native.Nat.{ℕ, zero, suc, ◌+◌, ◌-◌, ◌*◌, ◌≤◌, ◌<◌, max}
use mathlib.Core.Path.{◌≡◌, refl, sym, ap, ◌∙◌}
use mathlib.Core.Bool.{Bool, true, false}
use mathlib.Core.List.{List}
use native.Mathlib.Omega.{arith}
use lib.ListN.{length}
use Rattle.text.specs.Booleans.{choose}
use Rattle.text.specs.Words.{push}
use Rattle.text.proofs.Booleans.{choose_cong, split}
use Rattle.text.specs.Limits.{max_text}
use Rattle.token.specs.Table.{toks, start, end, is, word, label}
use Rattle.token.specs.Tokens.{push_literal}
use Rattle.table.specs.Tree.{Span, Atom, text, range, peek_slice, plain, Tree, leaf, below, count, stored, size, atom_stored, ends_at, starts_at}
use Rattle.table.specs.declared.Join.TheVariants.{Seq}
use Rattle.table.specs.declared.Unary.{Unary}
use Rattle.table.specs.declared.Unary.TheVariants.{PosPred, NegPred, Push}
use Rattle.table.specs.declared.Sort.TheVariants.{Str, Insens, Ident, PushLiteral}
use Rattle.structure.specs.declared.Level.{Level}
use Rattle.structure.specs.Tokens.{across, spells}
use Rattle.structure.specs.Values.{is_integer, integer, string, character}
use Rattle.structure.specs.Structure.{Parsed, got, refused, next, want, join, closed, prefixed, postfixed, in_tag, post, from_number, from_comma, postfix_at, slice_to, slice, pushed, ranged, slices, leaf_at, Call, expr, term, signed, node, chain, posts, body, place, weight, run, Run}
use Rattle.structure.proofs.Steps.{inside_is, want_cong, no_tree, next_got, next_cong, want_got, want_post, opened_got, opened_cong, posts_cong, posts_by_lem}
use Rattle.structure.proofs.Sizes.{most, word_short, label_short, string_short, Grown, grown_none, grown_ends, grown_starts, grown_before, grown_after, grown_tag, tag_small, count_closed, size_closed, count_more, size_more}

-- ---- postfixes

abbrev pub Past : List ℕ → ℕ → ℕ → Type 0
Past s i n = (i < n) × (n ≤ length (toks s))

past_is : (s : List ℕ) (i m : ℕ) {w v : Unary} {n : ℕ} → Past s i m → post w m ≡ post v n → Past s i n
past_is s i m {n = n} p e = let z : m ≡ n = cc in (omega arith, omega arith)

from_number_lem : (s : List ℕ) (i : ℕ) (v : Unary) (n : ℕ) → from_number s i ≡ post v n → Past s i n
unfolding from_number
from_number_lem s i v n e =
    split (is s (i + 1) 3) _ _ (λ a e₀. let p = inside_is s (i + 1) 3 (omega arith) a in past_is s i (i + 2) (omega arith, omega arith) e₀)
    (λ a e₀.
    let (b, p, e₁) = want_post s (i + 1) 15 _ (omega arith) e₀ in
    split (is s (i + 1 + 1) 3) _ _ (λ c e₂. let q = inside_is s (i + 1 + 1) 3 (omega arith) c in past_is s i (i + 1 + 1 + 1) (omega arith, omega arith) e₂)
    (λ c e₂.
    let (d, q, e₃) = want_post s (i + 1 + 1) 20 _ (omega arith) e₂ in
    let (f, r, e₄) = want_post s (i + 1 + 1 + 1) 3 _ (omega arith) e₃ in
    past_is s i (i + 1 + 1 + 1 + 1) (omega arith, omega arith) e₄) e₁) e

from_comma_lem : (s : List ℕ) (i : ℕ) (v : Unary) (n : ℕ) → from_comma s i ≡ post v n → Past s i n
unfolding from_comma
from_comma_lem s i v n e =
    let (a, p, e₁) = want_post s i 15 _ (omega arith) e in
    let (b, q, e₂) = want_post s (i + 1) 20 _ (omega arith) e₁ in
    let (c, r, e₃) = want_post s (i + 1 + 1) 3 _ (omega arith) e₂ in
    past_is s i (i + 1 + 1 + 1) (omega arith, omega arith) e₃

pub postfix_past : (s : List ℕ) (i : ℕ) (v : Unary) (n : ℕ) → postfix_at s i ≡ post v n → Past s i n
unfolding postfix_at
postfix_past s i v n e =
    split (is s i 12) _ _ (λ a e₀. let p = inside_is s i 12 (omega arith) a in past_is s i (i + 1) (omega arith, omega arith) e₀)
    (λ a. split (is s i 13) _ _ (λ b e₀. let p = inside_is s i 13 (omega arith) b in past_is s i (i + 1) (omega arith, omega arith) e₀)
    (λ b. split (is s i 14) _ _ (λ c e₀. let p = inside_is s i 14 (omega arith) c in past_is s i (i + 1) (omega arith, omega arith) e₀)
    (λ c. split (is s i 2) _ _
    (λ d e₀.
    split (is s (i + 1) 20) _ _ (λ f e₁. let p = from_number_lem s (i + 1) v n e₁ in (omega arith, omega arith))
    (λ f e₁. let p = from_comma_lem s (i + 1) v n e₁ in (omega arith, omega arith)) e₀)
    (λ d e₀. let z : ◌≡◌ {A = ℕ} 0 1 = cc in absurd (omega arith))))) e

-- ---- leaves

-- a leaf is one node, whose text isn't long
pub record Leaf (s : List ℕ) (at : ℕ) (t : Tree Span) (n : ℕ) : Type 0 where
  pub past : at < n
  pub within : n ≤ length (toks s)
  pub counts : count t ≡ 1
  pub small : length s ≤ max_text → size t ≤ most

leaf_is : (s : List ℕ) (at m : ℕ) (p : Span) (a : Atom) {t : Tree Span} {n : ℕ} → at < m → m ≤ length (toks s)
    → (length s ≤ max_text → length (atom_stored a) ≤ most) → got (leaf p a) m ≡ got t n → Leaf s at t n
unfolding below stored
leaf_is s at m p a {t} {n} h l w e =
    let z : m ≡ n = cc in
    let y : leaf p a ≡ t = cc in
    let c = ap (count {P = Span}) y in
    let b = ap (size {P = Span}) y in
    record { past = omega arith; within = omega arith; counts = omega arith; small = λ k. let q = w k in omega arith }

module _ (s : List ℕ) (at : ℕ) where
  slice_to_lem : (from i : ℕ) {t : Tree Span} {n : ℕ} → at ≤ i → slice_to s at from i ≡ got t n → Leaf s at t n
  unfolding slice_to
  slice_to_lem from i h e =
      split (is_integer s i) _ _
      (λ a e₀. let (b, p, e₁) = want_got s (i + 1) 5 _ (omega arith) e₀ in leaf_is s at (i + 1 + 1) (across s at (i + 1)) (peek_slice from (Some (integer s i))) (omega arith) (omega arith) (λ w. omega arith) e₁)
      (λ a e₀. let (b, p, e₁) = want_got s i 5 _ (omega arith) e₀ in leaf_is s at (i + 1) (across s at i) (peek_slice from None) (omega arith) (omega arith) (λ w. omega arith) e₁) e

  slice_leaf : (i : ℕ) {t : Tree Span} {n : ℕ} → at ≤ i → slice s at i ≡ got t n → Leaf s at t n
  unfolding slice
  slice_leaf i h e =
      split (is_integer s i) _ _
      (λ a e₀. let (b, p, e₁) = want_got s (i + 1) 22 _ (omega arith) e₀ in slice_to_lem (integer s i) (i + 1 + 1) (omega arith) e₁)
      (λ a e₀. let (b, p, e₁) = want_got s i 22 _ (omega arith) e₀ in slice_to_lem 0 (i + 1) (omega arith) e₁) e

  pushed_leaf : (o : ℕ) {t : Tree Span} {n : ℕ} → pushed o s at ≡ got t n → Leaf s at t n
  unfolding pushed
  pushed_leaf o e =
      let (a, p, e₁) = want_got s (at + 1) 6 _ (omega arith) e in
      let (b, e₂) = opened_got o s (at + 1) _ e₁ in
      let (c, q, e₃) = want_got s (at + 1 + 1) 23 _ (omega arith) e₂ in
      let (d, r, e₄) = want_got s (at + 1 + 1 + 1) 7 _ (omega arith) e₃ in
      leaf_is s at (at + 1 + 1 + 1 + 1) (across s (at + 1 + 1) (at + 1 + 1)) (text PushLiteral (string s (at + 1 + 1))) (omega arith) (omega arith) (λ w. omega (arith, string_short s (at + 1 + 1))) e₄

  ranged_leaf : {t : Tree Span} {n : ℕ} → ranged s at ≡ got t n → Leaf s at t n
  unfolding ranged
  ranged_leaf e =
      let (a, p, e₁) = want_got s (at + 1) 22 _ (omega arith) e in
      let (b, q, e₂) = want_got s (at + 1 + 1) 25 _ (omega arith) e₁ in
      leaf_is s at (at + 1 + 1 + 1) (across s at (at + 1 + 1)) (range (character s at) (character s (at + 1 + 1))) (omega arith) (omega arith) (λ w. omega arith) e₂

  pub leaf_went : (o : ℕ) {t : Tree Span} {n : ℕ} → leaf_at o s at ≡ got t n → Leaf s at t n
  unfolding leaf_at
  leaf_went o e =
      split (spells push_literal s at) _ _ (λ a e₀. pushed_leaf o e₀)
      (λ a. split (slices s at) _ _ (λ b e₀. slice_leaf (at + 2) (omega arith) e₀)
      (λ b. split (is s at 18) _ _
      (λ c e₀. let p = inside_is s at 18 (omega arith) c in leaf_is s at (at + 1) (across s at at) (text Ident (word s at)) (omega arith) (omega arith) (λ w. omega (arith, word_short s at)) e₀)
      (λ c. split (is s at 23) _ _
      (λ d e₀. let p = inside_is s at 23 (omega arith) d in leaf_is s at (at + 1) (across s at at) (text Str (string s at)) (omega arith) (omega arith) (λ w. omega (arith, string_short s at)) e₀)
      (λ d. split (is s at 24) _ _
      (λ f e₀. let p = inside_is s at 24 (omega arith) f in leaf_is s at (at + 1) (across s at at) (text Insens (string s at)) (omega arith) (omega arith) (λ w. omega (arith, string_short s at)) e₀)
      (λ f. split (is s at 25) _ _ (λ g e₀. ranged_leaf e₀) (λ g e₀. no_tree e₀)))))) e

-- ---- where a call ends

-- a call that reads something takes a token at least
abbrev step : Call → ℕ
step (expr o at) = 1
step (term o at) = 1
step (signed o at) = 1
step (node o at) = 1
step (chain o c l at) = 0
step (posts t at) = 0

-- the nodes and the store bytes of what a call was handed
abbrev pub held : Call → ℕ
held (expr o at) = 0
held (term o at) = 0
held (signed o at) = 0
held (node o at) = 0
held (chain o c l at) = count (closed c l)
held (posts t at) = count t

abbrev pub held_size : Call → ℕ
held_size (expr o at) = 0
held_size (term o at) = 0
held_size (signed o at) = 0
held_size (node o at) = 0
held_size (chain o c l at) = size (closed c l)
held_size (posts t at) = size t

-- it ends inside the text, has a token at least for each node, and no node has more than `most` bytes of its own
pub record Went (s : List ℕ) (c : Call) (t : Tree Span) (n : ℕ) : Type 0 where
  pub on : place c + step c ≤ n
  pub within : n ≤ max (length (toks s)) (place c)
  pub few : place c + count t ≤ n + held c
  pub more : held c ≤ count t
  pub large : held_size c ≤ size t
  pub small : length s ≤ max_text → size t + most * held c ≤ most * count t + held_size c

module _ (level : Level) (s : List ℕ) where
  abbrev Wents : (Call → Parsed) → Type 0
  Wents go = (d : Call) (t : Tree Span) (n : ℕ) → go d ≡ got t n → Went s d t n

  module _ (go : Call → Parsed) (ih : Wents go) where
    -- a term after an operator, and the rest of the chain
    joined_went : (o at : ℕ) (c : Option (Tree Span)) (l : Tree Span) (cs : Tree Span → Option (Tree Span)) (ls : Tree Span → Tree Span) (t : Tree Span) (n : ℕ) → at < length (toks s)
        → ((r : Tree Span) → count (closed (cs r) (ls r)) ≡ count (closed c l) + count r + 1) → ((r : Tree Span) → size (closed (cs r) (ls r)) ≡ size (closed c l) + size r)
        → next (go (term o (at + 1))) (λ r m. go (chain o (cs r) (ls r) m)) ≡ got t n → Went s (chain o c l at) t n
    joined_went o at c l cs ls t n h x y e =
        let (u, i, e₁, e₂) = next_got _ _ e in
        let p = ih (term o (at + 1)) u i e₁ in
        let q = ih (chain o (cs u) (ls u) i) t n e₂ in
        let z = x u in
        let w = y u in
        record {
          on = omega arith;
          within = omega arith;
          few = omega arith;
          more = omega arith;
          large = omega arith;
          small = λ k. let a = p.small k in let b = q.small k in omega arith;
        }

    -- a predicate, and what it stands before
    signed_went : (o at : ℕ) (v : Unary) (t : Tree Span) (n : ℕ) → at < length (toks s)
        → next (go (signed o (at + 1))) (λ x m. got (prefixed (start s at) (plain v) x) m) ≡ got t n → Went s (signed o at) t n
    signed_went o at v t n h e =
        let (u, i, e₁, e₂) = next_got _ _ e in
        let p = ih (signed o (at + 1)) u i e₁ in
        let a : prefixed (start s at) (plain v) u ≡ t = cc in
        let b : i ≡ n = cc in
        let c = ap (count {P = Span}) a in
        let d = ap (size {P = Span}) a in
        let g = grown_before (start s at) v u in
        record {
          on = omega arith;
          within = omega arith;
          few = omega arith;
          more = omega arith;
          large = omega arith;
          small = λ k. let l = p.small k in omega arith;
        }

    -- an expression in brackets, from i on
    bracket_went : (o at i k : ℕ) (f : Tree Span → ℕ → Tree Span) (t : Tree Span) (n : ℕ) → at + k < i → k ≤ 1 → ((x : Tree Span) (m : ℕ) → Grown x (f x m) k 0)
        → next (go (expr (o + 1) i)) (λ x m. want refused s m 7 (λ j. got (f x m) j)) ≡ got t n → Went s (node o at) t n
    bracket_went o at i k f t n h l g e =
        let (u, j, e₁, e₂) = next_got _ _ e in
        let (v, m, e₃) = want_got s j 7 _ (omega arith) e₂ in
        let p = ih (expr (o + 1) i) u j e₁ in
        let a : f u j ≡ t = cc in
        let b : j + 1 ≡ n = cc in
        let c = ap (count {P = Span}) a in
        let d = ap (size {P = Span}) a in
        let w = g u j in
        record {
          on = omega arith;
          within = omega arith;
          few = omega arith;
          more = omega arith;
          large = omega arith;
          small = λ z. let y = p.small z in omega arith;
        }

    leaf_goes : (o at : ℕ) (t : Tree Span) (n : ℕ) → Leaf s at t n → Went s (node o at) t n
    leaf_goes o at t n l = record {
      on = omega (arith, l.past);
      within = omega (arith, l.within);
      few = omega (arith, l.past, l.counts);
      more = omega arith;
      large = omega arith;
      small = λ k. omega (arith, l.small k, l.counts);
    }

    opening_grown : (b : Bool) (a : ℕ) (t : Tree Span) → Grown t (choose b (λ u. starts_at t a) (λ u. t)) 0 0
    opening_grown true a t = grown_starts t a
    opening_grown false a t = grown_none t

    body_went : Wents (body level s go)
    unfolding body closed
    body_went (expr o at) t n e =
        let (u, i, e₁, e₂) = next_got _ _ e in
        let p = ih (term o at) u i e₁ in
        let q = ih (chain o None u i) t n e₂ in
        record {
          on = omega arith;
          within = omega arith;
          few = omega arith;
          more = omega arith;
          large = omega arith;
          small = λ w. let a = p.small w in let b = q.small w in omega arith;
        }
    body_went (chain o c l at) t n e =
        split (is s at 10) _ _
        (λ v e₀. joined_went o at c l (λ r. c) (λ r. join Seq l r) t n (inside_is s at 10 (omega arith) v) (λ r. count_closed c l r) (λ r. size_closed c l r) e₀)
        (λ v. split (is s at 11) _ _
        (λ v e₀. joined_went o at c l (λ r. Some (closed c l)) (λ r. r) t n (inside_is s at 11 (omega arith) v) (λ r. count_more c l r) (λ r. size_more c l r) e₀)
        (λ v e₀.
        let a : closed c l ≡ t = cc in
        let b : at ≡ n = cc in
        let d = ap (count {P = Span}) a in
        let f = ap (size {P = Span}) a in
        record { on = omega arith; within = omega arith; few = omega arith; more = omega arith; large = omega arith; small = λ w. omega arith })) e
    body_went (term o at) t n e =
        split (is s at 19) _ _
        (λ v e₀.
        let (v₁, m, e₁) = want_got s (at + 1) 1 _ (omega arith) e₀ in
        let (u, i, e₂, e₃) = next_got _ _ e₁ in
        let p = ih (signed o (at + 1 + 1)) u i e₂ in
        let a : in_tag level (start s at) (label s at) u ≡ t = cc in
        let b : i ≡ n = cc in
        let d = ap (count {P = Span}) a in
        let f = ap (size {P = Span}) a in
        let g = grown_tag level (start s at) (label s at) u in
        let h = label_short s at in
        let j = tag_small level 0 (omega arith) in
        record {
          on = omega arith;
          within = omega arith;
          few = omega arith;
          more = omega arith;
          large = omega arith;
          small = λ w. let k = p.small w in let l = tag_small level (length (label s at)) (omega arith) in omega arith;
        })
        (λ v e₀.
        let p = ih (signed o at) t n e₀ in
        record { on = p.on; within = p.within; few = p.few; more = p.more; large = p.large; small = p.small }) e
    body_went (signed o at) t n e =
        split (is s at 8) _ _ (λ v e₀. signed_went o at PosPred t n (inside_is s at 8 (omega arith) v) e₀)
        (λ v. split (is s at 9) _ _ (λ v e₀. signed_went o at NegPred t n (inside_is s at 9 (omega arith) v) e₀)
        (λ v e₀.
        let (u, i, e₁, e₂) = next_got _ _ e₀ in
        let (x, j, e₃, e₄) = next_got _ _ e₂ in
        let p = ih (node o at) u i e₁ in
        let q = ih (posts u i) x j e₃ in
        let a : choose (is s at 6) (λ u. starts_at x (start s at)) (λ u. x) ≡ t = cc in
        let b : j ≡ n = cc in
        let d = ap (count {P = Span}) a in
        let f = ap (size {P = Span}) a in
        let g = opening_grown (is s at 6) (start s at) x in
        record {
          on = omega arith;
          within = omega arith;
          few = omega arith;
          more = omega arith;
          large = omega arith;
          small = λ w. let k = p.small w in let l = q.small w in omega arith;
        })) e
    body_went (node o at) t n e =
        split (is s at 6) _ _
        (λ v e₀. let (h, e₁) = opened_got o s at _ e₀ in bracket_went o at (at + 1) 0 (λ x m. ends_at x (end s m)) t n (omega arith) (omega arith) (λ x m. grown_ends x (end s m)) e₁)
        (λ v. split (spells push s at) _ _
        (λ v e₀.
        let (v₁, m, e₁) = want_got s (at + 1) 6 _ (omega arith) e₀ in
        let (h, e₂) = opened_got o s (at + 1) _ e₁ in
        bracket_went o at (at + 1 + 1) 1 (λ x m. prefixed (start s at) (plain Push) x) t n (omega arith) (omega arith) (λ x m. grown_before (start s at) Push x) e₂)
        (λ v e₀. leaf_goes o at t n (leaf_went s at o e₀))) e
    body_went (posts u at) t n e =
        posts_by_lem (postfix_at s at) _ _
        (λ v m e₀ e₁.
        let h = postfix_past s at v m e₀ in
        let q = ih (posts (postfixed (end s (m - 1)) v u) m) t n e₁ in
        let g = grown_after (end s (m - 1)) v u in
        record {
          on = omega arith;
          within = omega arith;
          few = omega arith;
          more = omega arith;
          large = omega arith;
          small = λ w. let k = q.small w in omega arith;
        })
        (λ v e₀.
        let a : u ≡ t = cc in
        let b : at ≡ n = cc in
        let d = ap (count {P = Span}) a in
        let f = ap (size {P = Span}) a in
        record { on = omega arith; within = omega arith; few = omega arith; more = omega arith; large = omega arith; small = λ w. omega arith }) e

  -- ---- fuel

  module _ (f g : Call → Parsed) (ih : Wents f) where
    body_cong : (c : Call) → ((d : Call) → weight s d < weight s c → f d ≡ g d) → body level s f c ≡ body level s g c
    unfolding body
    body_cong (expr o at) h = next_cong _ _ _ _ (h (term o at) (omega arith)) (λ t n e. let p = ih (term o at) t n e in h (chain o None t n) (omega arith))
    body_cong (chain o c l at) h =
        choose_cong (is s at 10) _ _ _ _
        (λ v.
        let m = inside_is s at 10 (omega arith) v in
        next_cong _ _ _ _ (h (term o (at + 1)) (omega arith)) (λ t n e. let p = ih (term o (at + 1)) t n e in h (chain o c (join Seq l t) n) (omega arith)))
        (λ v. choose_cong (is s at 11) _ _ _ _
        (λ v.
        let m = inside_is s at 11 (omega arith) v in
        next_cong _ _ _ _ (h (term o (at + 1)) (omega arith)) (λ t n e. let p = ih (term o (at + 1)) t n e in h (chain o (Some (closed c l)) t n) (omega arith)))
        (λ v. refl))
    body_cong (term o at) h =
        choose_cong (is s at 19) _ _ _ _
        (λ v. want_cong refused s (at + 1) 1 _ _ (omega arith) (λ m. next_cong _ _ _ _ (h (signed o (at + 1 + 1)) (omega arith)) (λ t n e. refl)))
        (λ v. h (signed o at) (omega arith))
    body_cong (signed o at) h =
        choose_cong (is s at 8) _ _ _ _ (λ v. let m = inside_is s at 8 (omega arith) v in next_cong _ _ _ _ (h (signed o (at + 1)) (omega arith)) (λ t n e. refl))
        (λ v. choose_cong (is s at 9) _ _ _ _ (λ v. let m = inside_is s at 9 (omega arith) v in next_cong _ _ _ _ (h (signed o (at + 1)) (omega arith)) (λ t n e. refl))
        (λ v. next_cong _ _ _ _ (h (node o at) (omega arith)) (λ t n e. let p = ih (node o at) t n e in next_cong _ _ _ _ (h (posts t n) (omega arith)) (λ u m e₁. refl))))
    body_cong (node o at) h =
        choose_cong (is s at 6) _ _ _ _
        (λ v.
        let m = inside_is s at 6 (omega arith) v in
        opened_cong o s at _ _ (next_cong _ _ _ _ (h (expr (o + 1) (at + 1)) (omega arith)) (λ t n e. refl)))
        (λ v. choose_cong (spells push s at) _ _ _ _
        (λ v. want_cong refused s (at + 1) 6 _ _ (omega arith) (λ m. opened_cong o s (at + 1) _ _ (next_cong _ _ _ _ (h (expr (o + 1) (at + 1 + 1)) (omega arith)) (λ t n e. refl))))
        (λ v. refl))
    body_cong (posts t at) h =
        posts_cong (postfix_at s at) _ _ _ (λ v n e. let p = postfix_past s at v n e in h (posts (postfixed (end s (n - 1)) v t) n) (omega arith))

  run_went : (k : ℕ) → Wents (run level s k)
  unfolding run
  run_went zero c t n e = no_tree e
  run_went (suc k) c t n e = body_went (run level s k) (run_went k) c t n e

  run_fuel : (k j : ℕ) (c : Call) → weight s c < k → weight s c < j → run level s k c ≡ run level s j c
  unfolding run
  run_fuel zero j c h g = absurd (omega arith)
  run_fuel (suc k) zero c h g = absurd (omega arith)
  run_fuel (suc k) (suc j) c h g = body_cong (run level s k) (run level s j) (run_went k) c (λ d q. run_fuel k j d (omega arith) (omega arith))

  -- where whatever was read ends
  pub went : (c : Call) (t : Tree Span) (n : ℕ) → Run level s c ≡ got t n → Went s c t n
  unfolding Run
  went c t n e = run_went (suc (weight s c)) c t n e

  -- THE law: what a call reads is the grammar over what calls read
  pub law : (c : Call) → Run level s c ≡ body level s (Run level s) c
  unfolding Run run
  law c = body_cong (run level s (weight s c)) (Run level s) (run_went (weight s c)) c (λ d q. run_fuel (weight s c) (suc (weight s d)) d q (omega arith))

  -- and nothing else meets it
  module _ (go : Call → Parsed) (meets : (c : Call) → go c ≡ body level s go c) where
    only_in : (k : ℕ) (c : Call) → weight s c < k → Run level s c ≡ go c
    only_in zero c h = absurd (omega arith)
    only_in (suc k) c h = law c ∙ body_cong (Run level s) go went c (λ d q. only_in k d (omega arith)) ∙ sym (meets c)

    pub law_only : (c : Call) → go c ≡ Run level s c
    law_only c = sym (only_in (suc (weight s c)) c (omega arith))
