-- Laws of names. The search goes up the rules, and all that it passed have another name; texts that pass the test are equal.
use Rattle.std.specs.Prelude.{ℕ, Option, Some, None}
use mathlib.Core.Path.{◌≡◌, refl, sym, ap, ◌∙◌}
use mathlib.Core.Bool.{Bool, true, false, not}
use mathlib.Core.List.{List, [], ◌∷◌}
use Prim.Native.Nat.{ℕ, ◌+◌, ◌-◌, ◌≤◌, ◌<◌}
use native.Mathlib.Omega.{arith}
use lib.Dec.{eqb}
use lib.ListN.{length, take, drop}
use Rattle.std.proofs.lemmas.List.{take_all}
use borrow.Author.Tests.{eq-eqb, ne_eqb, eqb-true, eqb-false}
use Rattle.std.specs.Cmp.Lexicographic.{pointwise, unequal}
use Rattle.text.specs.Words.{begins}
use Rattle.text.proofs.Booleans.{and_true, not_false}
use Rattle.text.proofs.Runs.{begins_listed}
use Rattle.table.specs.declared.Head.{Head}
use Rattle.table.specs.Record.{rules_in, name_at, part, head_at}
use Rattle.table.specs.Check.{lowest, Valid}
use Rattle.table.specs.Names.{same_text, other_name, named_by, rule_named, NamesInside}
use Rattle.table.proofs.Lowest.{lowest_bad, lowest_fails}
use Rattle.table.proofs.Texts.{part_between}
use Rattle.table.proofs.Tables.{sound_at}

-- ---- equal texts

module _ (xs ys : List ℕ) where
  pub other_length : (length xs ≡ length ys → ⊥) → false ≡ same_text xs ys
  unfolding same_text
  other_length h = rw (ne_eqb (length xs) (length ys) h)

  pub same_length : length xs ≡ length ys → {b : Bool} → b ≡ begins xs (drop 0 ys) → b ≡ same_text xs ys
  unfolding same_text
  same_length h e = e ∙ rw (eq-eqb (length xs) (length ys) h)

-- the library's `==` says the same of two lists
same_by : (xs ys : List ℕ) (t : Bool) → eqb (length xs) (length ys) ≡ t → pointwise eqb xs ys ≡ same_text xs ys
same_by xs ys true e =
    let h : length xs ≡ length ys = eqb-true _ _ e in
    let w : take (length xs) ys ≡ ys = take_all (length xs) ys (omega arith) in
    same_length xs ys h (ap (pointwise eqb xs) (sym w) ∙ begins_listed xs ys)
same_by xs ys false e = unequal eqb xs ys (eqb-false _ _ e) ∙ other_length xs ys (eqb-false _ _ e)

pub same_listed : (xs ys : List ℕ) → pointwise eqb xs ys ≡ same_text xs ys
same_listed xs ys = same_by xs ys _ refl

begins_all : (xs ys : List ℕ) → length xs ≡ length ys → begins xs ys ≡ true → xs ≡ ys
unfolding begins
begins_all [] [] h e = refl
begins_all [] (y ∷ ys) h e = absurd (omega arith)
begins_all (x ∷ xs) [] h e = absurd (omega arith)
begins_all (x ∷ xs) (y ∷ ys) h e =
    let b = and_true (eqb y x) (begins xs ys) e in
    let p : x ≡ y = sym (eqb-true y x b.0) in
    let q : xs ≡ ys = begins_all xs ys (omega arith) b.1 in
    cc

-- the test passes exactly for equal texts
pub same_equal : (xs ys : List ℕ) → same_text xs ys ≡ true → xs ≡ ys
unfolding same_text
same_equal xs ys e = let b = and_true (eqb (length xs) (length ys)) (begins xs ys) e in begins_all xs ys (eqb-true _ _ b.0) b.1

-- ---- the search

module _ (rs st b : List ℕ) where
  pub named_at : (n k : ℕ) {t : Bool} → n ≡ rules_in rs → k < n → lowest (other_name rs st b) k ≡ None → t ≡ same_text (name_at rs st k) b → t ≡ true → Some k ≡ rule_named rs st b
  unfolding rule_named other_name
  named_at n k m l h e t = let z : other_name rs st b k ≡ false = ap not (sym e ∙ t) in sym (ap named_by (lowest_bad (other_name rs st b) (rules_in rs) k (omega arith) h z))

  pub other_at : (k : ℕ) {t : Bool} → t ≡ same_text (name_at rs st k) b → t ≡ false → other_name rs st b k ≡ true
  unfolding other_name
  other_at k e t = ap not (sym e ∙ t)

  pub named_none : (n k : ℕ) → n ≡ rules_in rs → k ≤ n → n ≤ k → lowest (other_name rs st b) k ≡ None → None ≡ rule_named rs st b
  unfolding rule_named
  named_none n k m l g h = let e : rules_in rs ≡ k = omega arith in sym (ap (λ x. named_by (lowest (other_name rs st b) x)) e ∙ ap named_by h)

-- what is found is a rule of that name
pub named_rule : (rs st b : List ℕ) (k : ℕ) → rule_named rs st b ≡ Some k → (k < rules_in rs) × (name_at rs st k ≡ b)
unfolding rule_named other_name
named_rule rs st b k e =
    let f = lowest_fails (other_name rs st b) (rules_in rs) k (by_bad (lowest (other_name rs st b) (rules_in rs)) e) in
    (f.0, same_equal (name_at rs st k) b (not_false (same_text (name_at rs st k) b) f.1))
  where
    by_bad : (r : Option ℕ) → named_by r ≡ Some k → r ≡ Some k
    by_bad None w = let z : ◌≡◌ {A = ℕ} 0 1 = cc in absurd (omega arith)
    by_bad (Some j) w = let q : j ≡ k = cc in ap Some q

module _ (rs st : List ℕ) (k : ℕ) (h : Head) (e : h ≡ head_at rs k) where
  pub head_name : take (h.offset + h.length - h.offset) (drop h.offset st) ≡ name_at rs st k
  unfolding head_at
  head_name = part_between st h.offset h.length ∙ ap (λ (x : Head). part st x.offset x.length) e

  pub head_inside : NamesInside rs st → k < rules_in rs → h.offset + h.length ≤ length st
  unfolding head_at
  head_inside i l = omega (arith, i.in_store k l, ap (λ (x : Head). x.offset) e, ap (λ (x : Head). x.length) e)

pub valid_inside : {ns rs st : List ℕ} → Valid ns rs st → NamesInside rs st
valid_inside v = record { in_store = λ k l. (sound_at v k l).in_store }
