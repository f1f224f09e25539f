-- The values of a tree that is read are those of its tokens, in text order. The invariant: some values and what a call was handed are those of the tokens before it;
-- then the same values and what was read are those of the tokens up to where it ends (`Hold`).
use Rattle.std.specs.Prelude.{Some, None, Option}
use Prim.Native.Nat.{ℕ, zero, suc, ◌+◌, ◌-◌, ◌≤◌, ◌<◌}
use mathlib.Core.Path.{◌≡◌, refl, sym, ap, ◌∙◌}
use mathlib.Core.Bool.{Bool, true, false, not}
use mathlib.Core.Logic.{◌⊎◌, inl, inr}
use mathlib.Core.List.{List, [], ◌∷◌, ◌++◌, append_assoc, append-nil}
use native.Mathlib.Numerals.{add-one}
use native.Mathlib.Omega.{arith}
use lib.Dec.{leb, eqb}
use lib.ListN.{length}
use borrow.Author.Tests.{leb-true, eqb-true, eq-eqb, ne_eqb}
use Rattle.text.specs.Booleans.{choose, and, or}
use Rattle.text.specs.Words.{begins, push}
use Rattle.text.proofs.Booleans.{and_true, and_both, and_first, and_second, or_by, choose_by, choose_false, choose_true, split}
use Rattle.token.specs.Table.{toks, kind, start, end, is, word, label}
use Rattle.token.specs.Tokens.{push_literal}
use Rattle.table.specs.Tree.{Span, Atom, peek_slice, Wrap, plain, node_tag, Tree, leaf, one, two, Rule, placed, ends_at, starts_at}
use Rattle.table.specs.declared.Join.TheVariants.{Seq}
use Rattle.table.specs.declared.Unary.{Unary}
use Rattle.table.specs.declared.Unary.TheVariants.{PosPred, NegPred, Push}
use Rattle.structure.specs.declared.Level.{Level}
use Rattle.structure.specs.declared.Level.TheVariants.{Tagged, Plain}
use Rattle.structure.specs.Tokens.{across, same, spells, peek}
use Rattle.structure.specs.Values.{number, is_integer, integer, string, character}
use Rattle.structure.specs.Structure.{Parsed, got, refused, next, want, join, closed, prefixed, postfixed, in_tag, post, postfix_at, slice_to, slice, leaf_at, Call, expr, term, signed, node, chain, posts, body, place, Run, is_name, silent, mark_at, past_mark, past_bar, Ruled, rules, unruled, with_rule, Ruling, ruling, no_rule, then_rules, rule_from, rules_up_to, docs_in, docs, grammar}
use Rattle.structure.specs.Held.{Value, exact, least, most, lower, peeked, single, bytes, pushes, unary_values, wrap_values, atom_values, tree_values, rules_values, kind_before, minimum_value, number_value, value_by, value_at, values_to, values_in}
use Rattle.structure.proofs.Steps.{inside_is, is_kind, another, spelled_word, begins_more, next_got, want_got, opened_got, posts_by_lem}
use Rattle.structure.proofs.Cases.{PostfixRead, opt, rep, once, both, greatest, postfix_read, LeafRead, literal, sliced, ident, str, insens, ranges, leaf_read, rule_read}
use Rattle.structure.proofs.Cases as Cases
use Rattle.structure.proofs.Fuel.{went}
use Rattle.structure.proofs.Rules.{past_mark_on, past_bar_on}
use Rattle.structure.proofs.Descent.{descent}

-- ---- a token

module _ (s : List ℕ) (i : ℕ) where
  pub value_is : (k : ℕ) → is s i k ≡ true → value_at s i ≡ value_by s (kind_before s i) i k
  value_is k e = ap (value_by s (kind_before s i) i) (is_kind s i k e)

  pub values_next : values_to s (i + 1) ≡ values_to s i ++ value_at s i
  unfolding values_to
  values_next = rw (add-one i)

  -- a token of a kind that says what it is worth
  values_by : (vs : List Value) → value_at s i ≡ vs → values_to s (i + 1) ≡ values_to s i ++ vs
  values_by vs e = values_next ∙ ap (λ (x : List Value). values_to s i ++ x) e

  -- or nothing
  values_skip : value_at s i ≡ [] → values_to s (i + 1) ≡ values_to s i
  values_skip e = values_by [] e ∙ append-nil (values_to s i)

  pub before_next : kind_before s (i + 1) ≡ kind s i
  before_next = rw (add-one i)

  after : (k : ℕ) → is s i k ≡ true → kind_before s (i + 1) ≡ k
  after k e = before_next ∙ is_kind s i k e

  values_kind : (k : ℕ) → is s i k ≡ true → value_by s (kind_before s i) i k ≡ [] → values_to s (i + 1) ≡ values_to s i
  values_kind k e q = values_skip (value_is k e ∙ q)

  -- a word but PUSH_LITERAL
  values_word : is s i 18 ≡ true → spells push_literal s i ≡ false → values_to s (i + 1) ≡ values_to s i
  unfolding value_by
  values_word e q = values_kind 18 e (choose_false (spells push_literal s i) _ _ q)

  -- a number, by the kind before it
  values_number : (b : ℕ) (v : Value) → is s i 20 ≡ true → kind_before s i ≡ b → number_value s b i ≡ v → values_to s (i + 1) ≡ values_to s i ++ (v ∷ [])
  unfolding value_by
  values_number b v e f q = values_by (v ∷ []) (value_is 20 e ∙ ap (λ (x : ℕ). number_value s x i ∷ []) f ∙ ap (λ (x : Value). x ∷ []) q)

  -- a word of another length
  pub other_word : (p : List ℕ) → (length p ≡ 12 → ⊥) → spells p s i ≡ true → (is s i 18 ≡ true) × (spells push_literal s i ≡ false)
  unfolding spells
  other_word p n e =
      let (a, b) = and_true (is s i 18) (same p (word s i)) e in
      let (c, d) = and_true (eqb (length (word s i)) (length p)) (begins p (word s i)) b in
      let l : length (word s i) ≡ length p = eqb-true (length (word s i)) (length p) c in
      (a, and_second (is s i 18) (same push_literal (word s i)) (and_first (eqb (length (word s i)) 12) (begins push_literal (word s i)) (ne_eqb (length (word s i)) 12 (λ q. n (sym l ∙ q)))))

  values_other : (p : List ℕ) → (length p ≡ 12 → ⊥) → spells p s i ≡ true → values_to s (i + 1) ≡ values_to s i
  values_other p n e = let (a, b) = other_word p n e in values_word a b

-- a token has no value, or one
abbrev pub AtMostOne : List Value → Type 0
AtMostOne vs = (vs ≡ []) ⊎ ((v : Value) × (vs ≡ v ∷ []))

pub at_most_one : (s : List ℕ) (i : ℕ) → AtMostOne (value_at s i)
unfolding value_by
at_most_one s i =
    let k = kind s i in
    choose_by AtMostOne (eqb k 18) _ _ (λ a. choose_by AtMostOne (spells push_literal s i) _ _ (λ b. inr (_, refl)) (λ b. inl refl))
    (λ a. choose_by AtMostOne (eqb k 20) _ _ (λ b. inr (_, refl))
    (λ b. choose_by AtMostOne (eqb k 21) _ _ (λ c. inr (_, refl))
    (λ c. choose_by AtMostOne (eqb k 22) _ _ (λ d. choose_by AtMostOne (eqb (kind_before s i) 4) _ _ (λ f. inr (_, refl)) (λ f. inl refl))
    (λ d. choose_by AtMostOne (or (eqb k 23) (eqb k 24)) _ _ (λ f. inr (_, refl)) (λ f. choose_by AtMostOne (eqb k 25) _ _ (λ g. inr (_, refl)) (λ g. inl refl))))))

not_true : (b : Bool) → not b ≡ true → b ≡ false
not_true false e = refl
not_true true e = sym e

module _ (s : List ℕ) (i : ℕ) where
  -- a rule's name doesn't begin PUSH, so it's no PUSH_LITERAL
  pub values_name : is_name s i ≡ true → values_to s (i + 1) ≡ values_to s i
  unfolding spells
  values_name e =
      let (a, b) = and_true (is s i 18) (not (begins push (word s i))) e in
      values_word s i a
      (and_second (is s i 18) (same push_literal (word s i))
      (and_second (eqb (length (word s i)) 12) (begins push_literal (word s i)) (begins_more push (95 ∷ 76 ∷ 73 ∷ 84 ∷ 69 ∷ 82 ∷ 65 ∷ 76 ∷ []) (word s i) (not_true (begins push (word s i)) b))))

  mark_skip : (m : ℕ) → mark_at s i ≡ m → (m ≡ 0 → ⊥) → values_to s (i + 1) ≡ values_to s i
  unfolding mark_at value_by
  mark_skip m e n =
      split (spells silent s i) _ _ (λ a f. values_other s i silent (λ q. omega arith) a)
      (λ a. split (is s i 16) _ _ (λ b f. values_kind s i 16 b refl)
      (λ b. split (is s i 17) _ _ (λ c f. values_kind s i 17 c refl) (λ c. split (is s i 9) _ _ (λ d f. values_kind s i 9 d refl) (λ d f. absurd (n (sym f)))))) e

  pub values_mark : values_to s (past_mark s i) ≡ values_to s i
  values_mark =
      choose_by (λ (n : ℕ). values_to s n ≡ values_to s i) (eqb (mark_at s i) 0) _ _ (λ e. refl)
      (λ e. mark_skip (mark_at s i) refl (λ q. let z = eq-eqb (mark_at s i) 0 q in let y : ◌≡◌ {A = ℕ} 0 1 = cc in omega arith))

  pub values_bar : values_to s (past_bar s i) ≡ values_to s i
  unfolding value_by
  values_bar = choose_by (λ (n : ℕ). values_to s n ≡ values_to s i) (is s i 11) _ _ (λ e. values_kind s i 11 e refl) (λ e. refl)

-- ---- postfixes

module _ (s : List ℕ) (at : ℕ) where
  brace : is s at 2 ≡ true → values_to s (at + 1) ≡ values_to s at
  unfolding value_by
  brace e = values_kind s at 2 e refl

  -- a number behind `{`: before `}` it is exact, else a minimum
  exact_one : (i : ℕ) → is s i 20 ≡ true → kind_before s i ≡ 2 → is s (i + 1) 3 ≡ true → values_to s (i + 1) ≡ values_to s i ++ (exact (number s i) ∷ [])
  exact_one i e g c = values_number s i 2 (exact (number s i)) e g (choose_true (is s (i + 1) 3) _ _ c)

  minimum_one : (i : ℕ) (v : Value) → is s i 20 ≡ true → kind_before s i ≡ 2 → is s (i + 1) 3 ≡ false → minimum_value s i ≡ v → values_to s (i + 1) ≡ values_to s i ++ (v ∷ [])
  minimum_one i v e g c q = values_number s i 2 v e g (choose_false (is s (i + 1) 3) _ _ c ∙ q)

  -- without a maximum, since `}` follows the comma
  least_one : (i : ℕ) → is s i 20 ≡ true → kind_before s i ≡ 2 → is s (i + 1) 3 ≡ false → is s (i + 1 + 1) 3 ≡ true → values_to s (i + 1) ≡ values_to s i ++ (least (number s i) ∷ [])
  least_one i e g c d =
      let z : i + 1 + 1 ≡ i + 2 = omega arith in
      minimum_one i (least (number s i)) e g c
      (choose_false (and (is s (i + 1) 15) (is s (i + 2) 20)) _ _
      (and_second (is s (i + 1) 15) (is s (i + 2) 20) (another s (i + 2) (kind s (i + 2)) 3 20 refl (is_kind s (i + 2) 3 (sym (ap (λ (j : ℕ). is s j 3) z) ∙ d)) (λ q. omega arith))))

  -- and with one
  lower_one : (i : ℕ) → is s i 20 ≡ true → kind_before s i ≡ 2 → is s (i + 1) 3 ≡ false → is s (i + 1) 15 ≡ true → is s (i + 1 + 1) 20 ≡ true
      → values_to s (i + 1) ≡ values_to s i ++ (lower (number s i) (number s (i + 1 + 1)) ∷ [])
  lower_one i e g c d h =
      let z : i + 1 + 1 ≡ i + 2 = omega arith in
      minimum_one i (lower (number s i) (number s (i + 1 + 1))) e g c
      (choose_true (and (is s (i + 1) 15) (is s (i + 2) 20)) _ _ (and_both (is s (i + 1) 15) (is s (i + 2) 20) d (sym (ap (λ (j : ℕ). is s j 20) z) ∙ h))
      ∙ ap (λ (j : ℕ). lower (number s i) (number s j)) (sym z))

  -- behind a comma: a maximum
  most_one : (i : ℕ) → is s i 20 ≡ true → kind_before s i ≡ 15 → is s (i + 1) 3 ≡ true → values_to s (i + 1) ≡ values_to s i ++ (most (number s i) ∷ [])
  most_one i e g c = values_number s i 15 (most (number s i)) e g (choose_true (is s (i + 1) 3) _ _ c)

  plainly : (k : ℕ) → is s at k ≡ true → value_by s (kind_before s at) at k ≡ [] → values_to s (at + 1) ≡ values_to s at ++ []
  plainly k e q = values_kind s at k e q ∙ sym (append-nil (values_to s at))

  postfix_by : (v : Unary) (n : ℕ) → PostfixRead s at v n → values_to s n ≡ values_to s at ++ unary_values v
  unfolding value_by
  postfix_by v n (opt a e f) = rw (e, f) (plainly 12 a refl)
  postfix_by v n (rep a b e f) = rw (e, f) (plainly 13 b refl)
  postfix_by v n (once a b c e f) = rw (e, f) (plainly 14 c refl)
  postfix_by v n (Cases.exact a b c e f) =
      let z : n ≡ at + 1 + 1 + 1 = omega arith in
      rw (e, z) (values_kind s (at + 1 + 1) 3 c refl ∙ exact_one (at + 1) b (after s at 2 a) c ∙ ap (λ (x : List Value). x ++ (exact (number s (at + 1)) ∷ [])) (brace a))
  postfix_by v n (Cases.least a b c d g e f) =
      rw (e, f)
      (values_kind s (at + 1 + 1 + 1) 3 g refl ∙ values_kind s (at + 1 + 1) 15 d refl ∙ least_one (at + 1) b (after s at 2 a) c g ∙ ap (λ (x : List Value). x ++ (least (number s (at + 1)) ∷ [])) (brace a))
  postfix_by v n (both a b c d g h k e f) =
      rw (e, f)
      (values_kind s (at + 1 + 1 + 1 + 1) 3 k refl ∙ most_one (at + 1 + 1 + 1) h (after s (at + 1 + 1) 15 d) k
      ∙ ap (λ (x : List Value). x ++ (most (number s (at + 1 + 1 + 1)) ∷ []))
      (values_kind s (at + 1 + 1) 15 d refl ∙ lower_one (at + 1) b (after s at 2 a) c d h ∙ ap (λ (x : List Value). x ++ (lower (number s (at + 1)) (number s (at + 1 + 1 + 1)) ∷ [])) (brace a))
      ∙ append_assoc (values_to s at) _ _)
  postfix_by v n (greatest a b c d g e f) =
      rw (e, f)
      (values_kind s (at + 1 + 1 + 1) 3 g refl ∙ most_one (at + 1 + 1) d (after s (at + 1) 15 c) g
      ∙ ap (λ (x : List Value). x ++ (most (number s (at + 1 + 1)) ∷ [])) (values_kind s (at + 1) 15 c refl ∙ brace a))

  pub postfix_values : (v : Unary) (n : ℕ) → postfix_at s at ≡ post v n → values_to s n ≡ values_to s at ++ unary_values v
  postfix_values v n e = postfix_by v n (postfix_read s at e)

-- ---- leaves

module _ (s : List ℕ) where
  leaf_is : (vs : List Value) (p : Span) (a : Atom) (m : ℕ) {t : Tree Span} {n : ℕ} → values_to s m ≡ vs ++ atom_values a → got (leaf p a) m ≡ got t n → values_to s n ≡ vs ++ tree_values t
  unfolding tree_values
  leaf_is vs p a m {t} {n} h e =
      let z : m ≡ n = cc in
      let y : leaf p a ≡ t = cc in
      sym (ap (values_to s) z) ∙ h ∙ ap (λ (x : Tree Span). vs ++ tree_values x) y

  -- a number of a slice stands behind `[` or `..`
  integer_value : (b i : ℕ) → or (eqb b 4) (eqb b 22) ≡ true → kind_before s i ≡ b → is_integer s i ≡ true → values_to s (i + 1) ≡ values_to s i ++ (peeked (integer s i) ∷ [])
  unfolding value_by
  integer_value b i o e f =
      or_by (is s i 20) (is s i 21) f (λ g. values_number s i b (peeked (integer s i)) g e (choose_true (or (eqb b 4) (eqb b 22)) _ _ o))
      (λ g. values_by s i (peeked (integer s i) ∷ []) (value_is s i 21 g))

  -- `..` says nothing behind anything but `[`
  dots_skip : (b i : ℕ) → kind_before s i ≡ b → eqb b 4 ≡ false → is s i 22 ≡ true → values_to s (i + 1) ≡ values_to s i
  unfolding value_by
  dots_skip b i e n d = values_kind s i 22 d (choose_false (eqb (kind_before s i) 4) _ _ (ap (λ (x : ℕ). eqb x 4) e ∙ n))

  dots_behind : (i : ℕ) → is_integer s i ≡ true → is s (i + 1) 22 ≡ true → values_to s (i + 1 + 1) ≡ values_to s (i + 1)
  dots_behind i f d = or_by (is s i 20) (is s i 21) f (λ g. dots_skip 20 (i + 1) (after s i 20 g) refl d) (λ g. dots_skip 21 (i + 1) (after s i 21 g) refl d)

  slice_to_lem : (vs : List Value) (at from i : ℕ) {t : Tree Span} {n : ℕ} → kind_before s i ≡ 22 → values_to s i ≡ vs ++ (peeked from ∷ []) → slice_to s at from i ≡ got t n → values_to s n ≡ vs ++ tree_values t
  unfolding slice_to value_by
  slice_to_lem vs at from i b h e =
      split (is_integer s i) _ _
      (λ a e₀.
      let (c, p, e₁) = want_got s (i + 1) 5 _ (omega arith) e₀ in
      leaf_is vs (across s at (i + 1)) (peek_slice from (Some (integer s i))) (i + 1 + 1)
      (values_kind s (i + 1) 5 c refl ∙ integer_value 22 i refl b a ∙ ap (λ (x : List Value). x ++ (peeked (integer s i) ∷ [])) h ∙ append_assoc vs _ _) e₁)
      (λ a e₀.
      let (c, p, e₁) = want_got s i 5 _ (omega arith) e₀ in
      leaf_is vs (across s at i) (peek_slice from None) (i + 1) (values_kind s i 5 c refl ∙ h) e₁) e

  slice_values : (at i : ℕ) {t : Tree Span} {n : ℕ} → kind_before s i ≡ 4 → slice s at i ≡ got t n → values_to s n ≡ values_to s i ++ tree_values t
  unfolding slice value_by
  slice_values at i b e =
      split (is_integer s i) _ _
      (λ a e₀.
      let (c, p, e₁) = want_got s (i + 1) 22 _ (omega arith) e₀ in
      slice_to_lem (values_to s i) at (integer s i) (i + 1 + 1) (after s (i + 1) 22 c) (dots_behind i a c ∙ integer_value 4 i refl b a) e₁)
      (λ a e₀.
      let (c, p, e₁) = want_got s i 22 _ (omega arith) e₀ in
      slice_to_lem (values_to s i) at 0 (i + 1) (after s i 22 c)
      (values_by s i (peeked 0 ∷ []) (value_is s i 22 c ∙ choose_true (eqb (kind_before s i) 4) _ _ (ap (λ (x : ℕ). eqb x 4) b))) e₁) e

  leaf_by : (o at : ℕ) (t : Tree Span) (n : ℕ) → LeafRead o s at t n → values_to s n ≡ values_to s at ++ tree_values t
  unfolding value_by tree_values
  leaf_by o at t n (literal a b c d f e g) =
      let w = spelled_word push_literal s at a in
      rw (e, g)
      (values_kind s (at + 1 + 1 + 1) 7 f refl ∙ values_by s (at + 1 + 1) (bytes (string s (at + 1 + 1)) ∷ []) (value_is s (at + 1 + 1) 23 d)
      ∙ ap (λ (x : List Value). x ++ (bytes (string s (at + 1 + 1)) ∷ []))
      (values_kind s (at + 1) 6 b refl ∙ values_by s at (pushes ∷ []) (value_is s at 18 w ∙ choose_true (spells push_literal s at) _ _ a))
      ∙ append_assoc (values_to s at) _ _)
  leaf_by o at t n (sliced a b e) =
      let (c, d) = and_true (spells peek s at) (is s (at + 1) 4) b in
      let z : at + 2 ≡ at + 1 + 1 = omega arith in
      let y : values_to s (at + 2) ≡ values_to s at = ap (values_to s) z ∙ values_kind s (at + 1) 4 d refl ∙ values_word s at (spelled_word peek s at c) a in
      slice_values at (at + 2) (ap (kind_before s) z ∙ after s (at + 1) 4 d) e ∙ ap (λ (x : List Value). x ++ tree_values t) y
  leaf_by o at t n (ident a b c e g) = rw (e, g) (values_word s at c a ∙ sym (append-nil (values_to s at)))
  leaf_by o at t n (str a b e g) = rw (e, g) (values_by s at (bytes (string s at) ∷ []) (value_is s at 23 b))
  leaf_by o at t n (insens a b c e g) = rw (e, g) (values_by s at (bytes (string s at) ∷ []) (value_is s at 24 c))
  leaf_by o at t n (ranges a b c d f h e g) =
      rw (e, g)
      (values_by s (at + 1 + 1) (single (character s (at + 1 + 1)) ∷ []) (value_is s (at + 1 + 1) 25 h)
      ∙ ap (λ (x : List Value). x ++ (single (character s (at + 1 + 1)) ∷ []))
      (dots_skip 25 (at + 1) (after s at 25 d) refl f ∙ values_by s at (single (character s at) ∷ []) (value_is s at 25 d))
      ∙ append_assoc (values_to s at) _ _)

  leaf_values : (o at : ℕ) (t : Tree Span) (n : ℕ) → leaf_at o s at ≡ got t n → values_to s n ≡ values_to s at ++ tree_values t
  leaf_values o at t n e = leaf_by o at t n (leaf_read o s at e)

-- ---- what the grammar makes of trees

values_placed : (p : Span) (t : Tree Span) → tree_values (placed p t) ≡ tree_values t
unfolding tree_values
values_placed p (leaf s a) = refl
values_placed p (one s o t) = refl
values_placed p (two s j a b) = refl

values_ends : (t : Tree Span) (z : ℕ) → tree_values (ends_at t z) ≡ tree_values t
unfolding ends_at
values_ends t z = values_placed _ t

values_starts : (b : Bool) (t : Tree Span) (a : ℕ) → tree_values (choose b (λ u. starts_at t a) (λ u. t)) ≡ tree_values t
unfolding starts_at
values_starts true t a = values_placed _ t
values_starts false t a = refl

-- a predicate, PUSH or a tag has no value
values_before : (a : ℕ) (w : Wrap) (t : Tree Span) → wrap_values w ≡ [] → tree_values (prefixed a w t) ≡ tree_values t
unfolding prefixed tree_values
values_before a w t e = ap (λ (x : List Value). tree_values t ++ x) e ∙ append-nil (tree_values t)

values_tag : (level : Level) (a : ℕ) (b : List ℕ) (t : Tree Span) → tree_values (in_tag level a b t) ≡ tree_values t
unfolding in_tag
values_tag Tagged a b t = values_before a (node_tag b) t refl
values_tag Plain a b t = refl

values_after : (z : ℕ) (v : Unary) (t : Tree Span) → tree_values (postfixed z v t) ≡ tree_values t ++ unary_values v
unfolding postfixed tree_values
values_after z v t = refl

values_some : (c l : Tree Span) → tree_values (closed (Some c) l) ≡ tree_values c ++ tree_values l
unfolding closed join tree_values
values_some c l = refl

values_sequence : (c : Option (Tree Span)) (l r : Tree Span) → tree_values (closed c (join Seq l r)) ≡ tree_values (closed c l) ++ tree_values r
unfolding closed join tree_values
values_sequence None l r = refl
values_sequence (Some c) l r = sym (append_assoc (tree_values c) (tree_values l) (tree_values r))

-- ---- the descent

-- the values of what a call was handed
abbrev handed : Call → List Value
handed (expr o at) = []
handed (term o at) = []
handed (signed o at) = []
handed (node o at) = []
handed (chain o c l at) = tree_values (closed c l)
handed (posts t at) = tree_values t

module _ (level : Level) (s : List ℕ) where
  abbrev Hold : Call → Tree Span → ℕ → Type 0
  Hold c t n = (vs : List Value) → values_to s (place c) ≡ vs ++ handed c → values_to s n ≡ vs ++ tree_values t

  module _ (go : Call → Parsed) (ih : (c : Call) (t : Tree Span) (n : ℕ) → go c ≡ got t n → Hold c t n) where
    -- a term after an operator, and the rest of the chain
    joined_hold : (o at : ℕ) (c : Option (Tree Span)) (l : Tree Span) (cs : Tree Span → Option (Tree Span)) (ls : Tree Span → Tree Span) (t : Tree Span) (n : ℕ)
        → values_to s (at + 1) ≡ values_to s at → ((r : Tree Span) → tree_values (closed (cs r) (ls r)) ≡ tree_values (closed c l) ++ tree_values r)
        → next (go (term o (at + 1))) (λ r m. go (chain o (cs r) (ls r) m)) ≡ got t n → Hold (chain o c l at) t n
    joined_hold o at c l cs ls t n k f e vs h =
        let (u, i, e₁, e₂) = next_got _ _ e in
        let p = ih (term o (at + 1)) u i e₁ (vs ++ tree_values (closed c l)) (k ∙ h ∙ sym (append-nil (vs ++ tree_values (closed c l)))) in
        ih (chain o (cs u) (ls u) i) t n e₂ vs (p ∙ append_assoc vs (tree_values (closed c l)) (tree_values u) ∙ ap (λ (x : List Value). vs ++ x) (sym (f u)))

    -- what is made of a tree that is read holds the same, and the tokens before it and behind it hold nothing
    made_hold : (c : Call) (j : ℕ) (vs : List Value) (x t : Tree Span) (m n : ℕ) → go c ≡ got x j → values_to s (place c) ≡ vs ++ handed c → values_to s m ≡ values_to s j
        → (y : Tree Span) → tree_values y ≡ tree_values x → got y m ≡ got t n → values_to s n ≡ vs ++ tree_values t
    made_hold c j vs x t m n e h k y f q =
        let z : m ≡ n = cc in
        let w : y ≡ t = cc in
        sym (ap (values_to s) z) ∙ k ∙ ih c x j e vs h ∙ ap (λ (x : List Value). vs ++ x) (sym f) ∙ ap (λ (x : Tree Span). vs ++ tree_values x) w

    -- an expression in brackets, from i on
    bracket_hold : (o i : ℕ) (f : Tree Span → ℕ → Tree Span) (t : Tree Span) (n : ℕ) (vs : List Value) → values_to s i ≡ vs ++ [] → ((x : Tree Span) (m : ℕ) → tree_values (f x m) ≡ tree_values x)
        → next (go (expr (o + 1) i)) (λ x m. want refused s m 7 (λ j. got (f x m) j)) ≡ got t n → values_to s n ≡ vs ++ tree_values t
    unfolding value_by
    bracket_hold o i f t n vs h g e =
        let (u, j, e₁, e₂) = next_got _ _ e in
        let (v, m, e₃) = want_got s j 7 _ (omega arith) e₂ in
        made_hold (expr (o + 1) i) j vs u t (j + 1) n e₁ h (values_kind s j 7 v refl) (f u j) (g u j) e₃

    sign_hold : (o at : ℕ) (v : Unary) (t : Tree Span) (n : ℕ) → unary_values v ≡ [] → values_to s (at + 1) ≡ values_to s at
        → next (go (signed o (at + 1))) (λ x m. got (prefixed (start s at) (plain v) x) m) ≡ got t n → Hold (signed o at) t n
    sign_hold o at v t n w k e vs h =
        let (u, i, e₁, e₂) = next_got _ _ e in
        made_hold (signed o (at + 1)) i vs u t i n e₁ (k ∙ h) refl (prefixed (start s at) (plain v) u) (values_before (start s at) (plain v) u w) e₂

    body_hold : (c : Call) (t : Tree Span) (n : ℕ) → body level s go c ≡ got t n → Hold c t n
    unfolding body closed value_by
    body_hold (expr o at) t n e vs h =
        let (u, i, e₁, e₂) = next_got _ _ e in
        ih (chain o None u i) t n e₂ vs (ih (term o at) u i e₁ vs h)
    body_hold (chain o c l at) t n e vs h =
        split (is s at 10) _ _ (λ v e₀. joined_hold o at c l (λ r. c) (λ r. join Seq l r) t n (values_kind s at 10 v refl) (values_sequence c l) e₀ vs h)
        (λ v. split (is s at 11) _ _ (λ v e₀. joined_hold o at c l (λ r. Some (closed c l)) (λ r. r) t n (values_kind s at 11 v refl) (λ r. values_some (closed c l) r) e₀ vs h)
        (λ v e₀.
        let a : closed c l ≡ t = cc in
        let b : at ≡ n = cc in
        sym (ap (values_to s) b) ∙ h ∙ ap (λ (x : Tree Span). vs ++ tree_values x) a)) e
    body_hold (term o at) t n e vs h =
        split (is s at 19) _ _
        (λ v e₀.
        let (v₁, m, e₁) = want_got s (at + 1) 1 _ (omega arith) e₀ in
        let (u, i, e₂, e₃) = next_got _ _ e₁ in
        made_hold (signed o (at + 1 + 1)) i vs u t i n e₂ (values_kind s (at + 1) 1 v₁ refl ∙ values_kind s at 19 v refl ∙ h) refl (in_tag level (start s at) (label s at) u)
        (values_tag level (start s at) (label s at) u) e₃)
        (λ v e₀. ih (signed o at) t n e₀ vs h) e
    body_hold (signed o at) t n e vs h =
        split (is s at 8) _ _ (λ v e₀. sign_hold o at PosPred t n refl (values_kind s at 8 v refl) e₀ vs h)
        (λ v. split (is s at 9) _ _ (λ v e₀. sign_hold o at NegPred t n refl (values_kind s at 9 v refl) e₀ vs h)
        (λ v e₀.
        let (u, i, e₁, e₂) = next_got _ _ e₀ in
        let (x, j, e₃, e₄) = next_got _ _ e₂ in
        made_hold (posts u i) j vs x t j n e₃ (ih (node o at) u i e₁ vs h) refl (choose (is s at 6) (λ u. starts_at x (start s at)) (λ u. x)) (values_starts (is s at 6) x (start s at)) e₄)) e
    body_hold (node o at) t n e vs h =
        split (is s at 6) _ _
        (λ v e₀. let (w, e₁) = opened_got o s at _ e₀ in bracket_hold o (at + 1) (λ x m. ends_at x (end s m)) t n vs (values_kind s at 6 v refl ∙ h) (λ x m. values_ends x (end s m)) e₁)
        (λ v. split (spells push s at) _ _
        (λ v e₀.
        let (v₁, m, e₁) = want_got s (at + 1) 6 _ (omega arith) e₀ in
        let (w, e₂) = opened_got o s (at + 1) _ e₁ in
        bracket_hold o (at + 1 + 1) (λ x m. prefixed (start s at) (plain Push) x) t n vs (values_kind s (at + 1) 6 v₁ refl ∙ values_other s at push (λ q. omega arith) v ∙ h) (λ x m. values_before (start s at) (plain Push) x refl) e₂)
        (λ v e₀. leaf_values s o at t n e₀ ∙ ap (λ (x : List Value). x ++ tree_values t) (h ∙ append-nil vs))) e
    body_hold (posts u at) t n e vs h =
        posts_by_lem (postfix_at s at) _ _
        (λ v m e₀ e₁.
        ih (posts (postfixed (end s (m - 1)) v u) m) t n e₁ vs
        (postfix_values s at v m e₀ ∙ ap (λ (x : List Value). x ++ unary_values v) h ∙ append_assoc vs (tree_values u) (unary_values v) ∙ ap (λ (x : List Value). vs ++ x) (sym (values_after (end s (m - 1)) v u))))
        (λ v e₀.
        let a : u ≡ t = cc in
        let b : at ≡ n = cc in
        sym (ap (values_to s) b) ∙ h ∙ ap (λ (x : Tree Span). vs ++ tree_values x) a) e

  -- an expression that is read has the values of its tokens
  pub expr_values : (o at : ℕ) (t : Tree Span) (n : ℕ) → Run level s (expr o at) ≡ got t n → values_to s n ≡ values_to s at ++ tree_values t
  expr_values o at t n e = descent level s Hold body_hold (expr o at) t n e (values_to s at) (sym (append-nil (values_to s at)))

-- ---- rules

then_got : (m : Ruling) (f : Rule Span → ℕ → Ruled) {us : List (Rule Span)} → then_rules m f ≡ rules us → (r : Rule Span) × (n : ℕ) × (m ≡ ruling r n) × (f r n ≡ rules us)
unfolding then_rules
then_got (ruling r n) f e = (r, n, refl, e)
then_got (no_rule x) f e = let z : ◌≡◌ {A = ℕ} 0 1 = cc in absurd (omega arith)

with_got : (r : Rule Span) (m : Ruled) {us : List (Rule Span)} → with_rule r m ≡ rules us → (vs : List (Rule Span)) × (m ≡ rules vs) × (us ≡ r ∷ vs)
with_got r (rules vs) e = (vs, refl, cc)
with_got r (unruled x) e = let z : ◌≡◌ {A = ℕ} 0 1 = cc in absurd (omega arith)

module _ (level : Level) (s : List ℕ) where
  rule_values : (at : ℕ) (r : Rule Span) (n : ℕ) → rule_from level s at ≡ ruling r n → (at < n) × (n ≤ length (toks s)) × (values_to s n ≡ values_to s at ++ tree_values r.tree)
  unfolding value_by
  rule_values at r n e =
      let c = rule_read level s at e in
      let i = at + 1 + 1 in
      let j = past_mark s i + 1 in
      let l = inside_is s c.past 3 (omega arith) c.shut in
      let g = went level s (expr 0 (past_bar s j)) c.body c.past c.read in
      let a = past_mark_on s i in
      let b = past_bar_on s j in
      let q : n ≡ c.past + 1 = c.next in
      let start : values_to s (past_bar s j) ≡ values_to s at =
      values_bar s j ∙ values_kind s (past_mark s i) 2 c.braced refl ∙ values_mark s i ∙ values_kind s (at + 1) 1 c.tied refl ∙ values_name s at c.named in (
        omega arith,
        omega arith,
        ap (values_to s) q ∙ values_kind s c.past 3 c.shut refl ∙ expr_values level s 0 (past_bar s j) c.body c.past c.read ∙ ap (λ (x : List Value). x ++ tree_values c.body) start
            ∙ ap (λ (x : Rule Span). values_to s at ++ tree_values x.tree) (sym c.rule),
      )

  end_values_lem : (at : ℕ) (us : List (Rule Span)) → at ≤ length (toks s) → length (toks s) ≤ at → rules [] ≡ rules us → values_in s ≡ values_to s at ++ rules_values us
  unfolding rules_values
  end_values_lem at us h g e =
      let z : length (toks s) ≡ at = omega arith in
      let y : [] ≡ us = cc in
      ap (values_to s) z ∙ sym (append-nil (values_to s at)) ∙ ap (λ (x : List (Rule Span)). values_to s at ++ rules_values x) y

  rules_values_lem : (k at : ℕ) (us : List (Rule Span)) → at ≤ length (toks s) → length (toks s) ≤ at + k → rules_up_to level s k at ≡ rules us → values_in s ≡ values_to s at ++ rules_values us
  unfolding rules_up_to value_by rules_values
  rules_values_lem zero at us h g e = end_values_lem at us h (omega arith) e
  rules_values_lem (suc k) at us h g e =
      split (leb (length (toks s)) at) _ _ (λ v e₀. end_values_lem at us h (leb-true (length (toks s)) at v) e₀)
      (λ v. split (is s at 27) _ _
      (λ w e₀.
      let l = inside_is s at 27 (omega arith) w in
      rules_values_lem k (at + 1) us (omega arith) (omega arith) e₀ ∙ ap (λ (x : List Value). x ++ rules_values us) (values_kind s at 27 w refl))
      (λ w e₀.
      let (r, n, e₁, e₂) = then_got (rule_from level s at) _ e₀ in
      let (vs, e₃, y) = with_got r (rules_up_to level s k n) e₂ in
      let (a, b, f) = rule_values at r n e₁ in
      rules_values_lem k n vs b (omega arith) e₃ ∙ ap (λ (x : List Value). x ++ rules_values vs) f ∙ append_assoc (values_to s at) (tree_values r.tree) (rules_values vs)
      ∙ ap (λ (x : List (Rule Span)). values_to s at ++ rules_values x) (sym y))) e

  docs_values : (k at : ℕ) → at ≤ length (toks s) → (docs_in s k at ≤ length (toks s)) × (values_to s (docs_in s k at) ≡ values_to s at)
  unfolding docs_in value_by
  docs_values zero at h = (h, refl)
  docs_values (suc k) at h =
      choose_by (λ (n : ℕ). (n ≤ length (toks s)) × (values_to s n ≡ values_to s at)) (is s at 26) _ _
      (λ e.
      let l = inside_is s at 26 (omega arith) e in
      let (a, b) = docs_values k (at + 1) (omega arith) in
      (a, b ∙ values_kind s at 26 e refl)) (λ e. (h, refl))

  -- the values of a grammar's trees are those of its tokens
  pub grammar_values : (us : List (Rule Span)) → grammar level s ≡ rules us → rules_values us ≡ values_in s
  unfolding grammar values_to
  grammar_values us e =
      let (a, b) = docs_values (length (toks s)) 0 (omega arith) in
      split (leb (length (toks s)) (docs s)) _ _ (λ v e₀. let z : ◌≡◌ {A = ℕ} 0 1 = cc in absurd (omega arith))
      (λ v e₀. sym (rules_values_lem (length (toks s)) (docs s) us a (omega arith) e₀ ∙ ap (λ (x : List Value). x ++ rules_values us) b)) e
