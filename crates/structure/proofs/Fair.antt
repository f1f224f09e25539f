-- Where no fault is found, the counts of the trees are those that can be printed and read back: each value of a token is fair since it is right,
-- and the trees have no others.
use Rattle.std.specs.Prelude.{Some, None, Ok}
use Prim.Native.Nat.{ℕ, zero, suc, ◌≤◌}
use mathlib.Core.Path.{◌≡◌, refl, sym, ap, ◌∙◌}
use mathlib.Core.Bool.{Bool, true, not}
use mathlib.Core.Logic.{⊎_elim}
use mathlib.Core.List.{List, [], ◌∷◌, ◌++◌}
use native.Mathlib.Omega.{arith}
use lib.ListN.{length}
use borrow.Author.Tests.{le-leb, ne_eqb}
use Rattle.text.specs.Booleans.{choose, and}
use Rattle.text.proofs.Booleans.{and_true, and_both, and_one, and_assoc, choose_by, split}
use Rattle.token.specs.Table.{toks, is, trimmed, word}
use Rattle.table.specs.Tree.{Span, Atom, text, range, peek_slice, Wrap, plain, node_tag, Tree, leaf, one, two, Rule}
use Rattle.table.specs.declared.Unary.{Unary}
use Rattle.table.specs.declared.Unary.TheVariants.{PosPred, NegPred, Opt, Rep, RepOnce, RepExact, RepMin, RepMax, RepMinMax, Push}
use Rattle.structure.specs.declared.Edition.{Edition}
use Rattle.structure.specs.declared.Level.{Level}
use Rattle.structure.specs.Values.{negated, integer_of, faults}
use Rattle.structure.specs.Structure.{rules, grammar}
use Rattle.structure.specs.Counts.{small, is_zero, positive, unary_counts, wrap_counts, atom_counts, counted, counted_rules}
use Rattle.structure.specs.Held.{Value, exact, least, most, lower, peeked, single, bytes, pushes, unary_values, wrap_values, atom_values, tree_values, rules_values, value_at, values_to, Counts, Right, RightTo}
use Rattle.structure.proofs.Numerals.{decimal_most}
use Rattle.structure.proofs.Held.{at_most_one, grammar_values}
use Rattle.structure.proofs.Judged.{sound_right}

-- a count that may be printed
abbrev fair : Value → Bool
fair (exact n) = positive n
fair (least n) = small n
fair (lower n m) = small n
fair (most n) = positive n
fair (peeked n) = small n
fair (single c) = true
fair (bytes b) = true
fair pushes = true

unfoldable all_fair : List Value → Bool
all_fair [] = true
all_fair (v ∷ vs) = and (fair v) (all_fair vs)

-- ---- right values are fair

module _ (edition : Edition) (level : Level) (s : List ℕ) (i : ℕ) where
  small_count : (n : ℕ) → Counts s i n → small n ≡ true
  small_count n e = le-leb n 4294967295 (decimal_most 4294967295 n (word s i) e)

  positive_count : (n : ℕ) → Counts s i n → 1 ≤ n → positive n ≡ true
  positive_count n e h = and_both (small n) (not (is_zero n)) (small_count n e) (ap not (ne_eqb n 0 (λ q. omega arith)))

  negated_small : (m : ℕ) → negated m ≤ 4294967295
  negated_small zero = omega arith
  negated_small (suc m) = omega arith

  integer_most : (m : ℕ) → integer_of s i ≡ Ok m → m ≤ 4294967295
  integer_most m e =
      split (is s i 21) _ _ (λ a f. omega (arith, decimal_most 2147483648 m (trimmed s i 1 0) f)) (λ a f. omega (arith, decimal_most 2147483647 m (word s i) f)) e

  right_fair : (v : Value) → Right edition level s i v → fair v ≡ true
  right_fair (exact n) h = positive_count n h.0 h.1
  right_fair (least n) h = small_count n h
  right_fair (lower n m) h = small_count n h.0
  right_fair (most n) h = positive_count n h.0 h.1
  right_fair (peeked n) h =
      ⊎_elim (λ a. le-leb n 4294967295 (omega (arith, a.1)))
      (λ a.
      let (m, e, q) = a in
      let l : choose (is s i 21) (λ u. negated m) (λ u. m) ≤ 4294967295 = choose_by (λ (x : ℕ). x ≤ 4294967295) (is s i 21) _ _ (λ b. negated_small m) (λ b. integer_most m e) in
      le-leb n 4294967295 (omega arith)) h
  right_fair (single c) h = refl
  right_fair (bytes b) h = refl
  right_fair pushes h = refl

-- ---- values in order

fair_append : (vs ws : List Value) → all_fair (vs ++ ws) ≡ and (all_fair vs) (all_fair ws)
unfolding all_fair
fair_append [] ws = refl
fair_append (v ∷ vs) ws = ap (and (fair v)) (fair_append vs ws) ∙ and_assoc (fair v) (all_fair vs) (all_fair ws)

values_fair : (edition : Edition) (level : Level) (s : List ℕ) (n : ℕ) → RightTo edition level s n → all_fair (values_to s n) ≡ true
unfolding values_to all_fair
values_fair edition level s zero h = refl
values_fair edition level s (suc n) h =
    fair_append (values_to s n) (value_at s n)
    ∙ and_both (all_fair (values_to s n)) (all_fair (value_at s n)) (values_fair edition level s n (λ i l. h i (omega arith)))
    (⊎_elim (λ e. ap all_fair e) (λ a. let (v, e) = a in ap all_fair e ∙ and_both (fair v) true (right_fair edition level s n v (h n (omega arith) v e)) refl) (at_most_one s n))

-- ---- trees

unary_fair : (u : Unary) → all_fair (unary_values u) ≡ unary_counts u
unfolding all_fair
unary_fair PosPred = refl
unary_fair NegPred = refl
unary_fair Opt = refl
unary_fair Rep = refl
unary_fair RepOnce = refl
unary_fair (RepExact n) = and_one (positive n)
unary_fair (RepMin n) = and_one (small n)
unary_fair (RepMax n) = and_one (positive n)
unary_fair (RepMinMax n m) = ap (and (small n)) (and_one (positive m))
unary_fair Push = refl

wrap_fair : (o : Wrap) → all_fair (wrap_values o) ≡ wrap_counts o
unfolding all_fair
wrap_fair (plain u) = unary_fair u
wrap_fair (node_tag b) = refl

atom_fair : (a : Atom) → all_fair (atom_values a) ≡ true → atom_counts a ≡ true
unfolding all_fair
atom_fair (text k b) h = refl
atom_fair (range x y) h = refl
atom_fair (peek_slice x None) h = h
atom_fair (peek_slice x (Some y)) h = sym (ap (and (small x)) (and_one (small y))) ∙ h

tree_fair : (t : Tree Span) → all_fair (tree_values t) ≡ true → counted t ≡ true
unfolding tree_values counted
tree_fair (leaf s a) h = atom_fair a h
tree_fair (one s o t) h =
    let (a, b) = and_true (all_fair (tree_values t)) (all_fair (wrap_values o)) (sym (fair_append (tree_values t) (wrap_values o)) ∙ h) in
    and_both (wrap_counts o) (counted t) (sym (wrap_fair o) ∙ b) (tree_fair t a)
tree_fair (two s j x y) h =
    let (a, b) = and_true (all_fair (tree_values x)) (all_fair (tree_values y)) (sym (fair_append (tree_values x) (tree_values y)) ∙ h) in
    and_both (counted x) (counted y) (tree_fair x a) (tree_fair y b)

rules_fair : (us : List (Rule Span)) → all_fair (rules_values us) ≡ true → counted_rules us ≡ true
unfolding rules_values counted_rules
rules_fair [] h = refl
rules_fair (r ∷ us) h =
    let (a, b) = and_true (all_fair (tree_values r.tree)) (all_fair (rules_values us)) (sym (fair_append (tree_values r.tree) (rules_values us)) ∙ h) in
    and_both (counted r.tree) (counted_rules us) (tree_fair r.tree a) (rules_fair us b)

-- every number of the trees is of 32 bits, and no exact count or maximum is 0
pub sound_counted : (edition : Edition) (level : Level) (s : List ℕ) (us : List (Rule Span)) → grammar level s ≡ rules us → faults edition level s ≡ None → counted_rules us ≡ true
sound_counted edition level s us e f = rules_fair us (ap all_fair (grammar_values level s us e) ∙ values_fair edition level s (length (toks s)) (sound_right edition level s f))
