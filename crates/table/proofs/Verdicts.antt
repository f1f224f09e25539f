-- Laws of the check of a node, with the first nodes kept so far.
use Rattle.std.specs.Prelude.{Some, None}
use mathlib.Core.Path.{◌≡◌, refl, ap, ◌∙◌}
use mathlib.Core.Bool.{Bool, true, false}
use mathlib.Core.List.{List}
use Prim.Native.Nat.{ℕ, ◌+◌, ◌<◌}
use native.Mathlib.Omega.{arith}
use lib.Dec.{eqb}
use lib.ListN.{length, get_or, set}
use lib.Seq.{get_or-set_same, get_or-set_other}
use borrow.Author.Tests.{eq-eqb, ne_eqb}
use Rattle.text.specs.Booleans.{choose}
use Rattle.text.proofs.Booleans.{and_both, and_first, and_second, choose_false, choose_true}
use Rattle.table.specs.declared.Join.{Join}
use Rattle.table.specs.declared.Leaf.{Leaf}
use Rattle.table.specs.declared.Op.{Op}
use Rattle.table.specs.declared.Node.TheVariants.{Tip, One, Two, Unknown}
use Rattle.table.specs.Record.{node_at, first_at}
use Rattle.table.specs.Check.{good_leaf, good_op, good_at, verdict, Firsts}
use Rattle.table.proofs.Columns.{below_suc}
use Rattle.table.proofs.Nodes.{first_le, first_tip, first_one, first_two, good_is}

module _ (ns st : List ℕ) (i : ℕ) where
  verdict_good : good_at ns st i ≡ true → verdict ns st i ≡ Some (first_at ns i)
  unfolding verdict
  verdict_good g = choose_true (good_at ns st i) _ _ g

  verdict_false : good_at ns st i ≡ false → verdict ns st i ≡ None
  unfolding verdict
  verdict_false g = choose_false (good_at ns st i) _ _ g

  pub verdict_tip : {l : Leaf} → node_at ns i ≡ Tip l → good_leaf st l ≡ true → verdict ns st i ≡ Some i
  verdict_tip e g = verdict_good (good_is ns st i e ∙ g) ∙ ap Some (first_tip ns i e)

  pub verdict_tip_out : {l : Leaf} → node_at ns i ≡ Tip l → good_leaf st l ≡ false → verdict ns st i ≡ None
  verdict_tip_out e g = verdict_false (good_is ns st i e ∙ g)

  pub verdict_one : {o : Op} {c : ℕ} → node_at ns i ≡ One o c → c + 1 ≡ i → good_op st o ≡ true → verdict ns st i ≡ Some (first_at ns c)
  verdict_one {o} {c} e h g =
      verdict_good (good_is ns st i e ∙ and_both (eqb (c + 1) i) (good_op st o) (eq-eqb (c + 1) i h) g) ∙ ap Some (first_one ns i e (omega arith))

  pub verdict_one_child : {o : Op} {c : ℕ} → node_at ns i ≡ One o c → (c + 1 ≡ i → ⊥) → verdict ns st i ≡ None
  verdict_one_child {o} {c} e h = verdict_false (good_is ns st i e ∙ and_first (eqb (c + 1) i) (good_op st o) (ne_eqb (c + 1) i h))

  pub verdict_one_op : {o : Op} {c : ℕ} → node_at ns i ≡ One o c → good_op st o ≡ false → verdict ns st i ≡ None
  verdict_one_op {o} {c} e g = verdict_false (good_is ns st i e ∙ and_second (eqb (c + 1) i) (good_op st o) g)

  pub verdict_two : {j : Join} {a b : ℕ} → node_at ns i ≡ Two j a b → b + 1 ≡ i → a + 1 ≡ first_at ns b → verdict ns st i ≡ Some (first_at ns a)
  verdict_two {j} {a} {b} e h l =
      verdict_good (good_is ns st i e ∙ and_both (eqb (b + 1) i) (eqb (a + 1) (first_at ns b)) (eq-eqb (b + 1) i h) (eq-eqb (a + 1) (first_at ns b) l))
      ∙ ap Some (first_two ns i e (omega (arith, first_le ns b)))

  pub verdict_two_right : {j : Join} {a b : ℕ} → node_at ns i ≡ Two j a b → (b + 1 ≡ i → ⊥) → verdict ns st i ≡ None
  verdict_two_right {j} {a} {b} e h = verdict_false (good_is ns st i e ∙ and_first (eqb (b + 1) i) (eqb (a + 1) (first_at ns b)) (ne_eqb (b + 1) i h))

  pub verdict_two_left : {j : Join} {a b : ℕ} → node_at ns i ≡ Two j a b → (a + 1 ≡ first_at ns b → ⊥) → verdict ns st i ≡ None
  verdict_two_left {j} {a} {b} e h = verdict_false (good_is ns st i e ∙ and_second (eqb (b + 1) i) (eqb (a + 1) (first_at ns b)) (ne_eqb (a + 1) (first_at ns b) h))

  pub verdict_unknown : node_at ns i ≡ Unknown → verdict ns st i ≡ None
  verdict_unknown e = verdict_false (good_is ns st i e)

-- ---- first nodes that are kept

-- one more
pub firsts_more : {ns fs : List ℕ} {i : ℕ} (x : ℕ) → i < length fs → Firsts ns fs i → x ≡ first_at ns i → Firsts ns (set fs i x) (i + 1)
firsts_more {ns} {fs} {i} x l h e = record {
  at = λ k m. below_suc (λ k. get_or (set fs i x) k 0 ≡ first_at ns k) i
      (λ k l. get_or-set_other fs i k x 0 (λ p. omega arith) ∙ h.at k l)
      (get_or-set_same fs i x 0 l ∙ e) k (omega arith);
}

pub firsts_none : (ns fs : List ℕ) → Firsts ns fs 0
firsts_none ns fs = record { at = λ k l. absurd (omega arith) }

-- a verdict's two cases
told : (b : Bool) (n x : ℕ) → choose b (λ u. Some n) (λ u. None) ≡ Some x → (b ≡ true) × (x ≡ n)
told true n x e = (refl, cc)
told false n x e = let z : ◌≡◌ {A = ℕ} 0 1 = cc in absurd (omega arith)

none : (b : Bool) (n : ℕ) → choose b (λ u. Some n) (λ u. None) ≡ None → b ≡ false
none true n e = let z : ◌≡◌ {A = ℕ} 0 1 = cc in absurd (omega arith)
none false n e = refl

pub verdict_at : (ns st : List ℕ) (i x : ℕ) → verdict ns st i ≡ Some x → (good_at ns st i ≡ true) × (x ≡ first_at ns i)
unfolding verdict
verdict_at ns st i x e = told (good_at ns st i) (first_at ns i) x e

pub verdict_none : (ns st : List ℕ) (i : ℕ) → verdict ns st i ≡ None → good_at ns st i ≡ false
unfolding verdict
verdict_none ns st i e = none (good_at ns st i) (first_at ns i) e
