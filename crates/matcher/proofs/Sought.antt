-- Laws of the rule of a name: the tables first, then the name.
use Rattle.std.specs.Prelude.{ℕ, Option, Some, None, Result, Ok, Err}
use mathlib.Core.Path.{◌≡◌, refl, sym, ap, ◌∙◌}
use mathlib.Core.List.{List}
use Prim.Native.Nat.{ℕ}
use Rattle.table.specs.declared.TableError.{TableError}
use Rattle.table.specs.Check.{tables}
use Rattle.table.specs.Names.{rule_named, NamesInside}
use Rattle.table.proofs.Tables.{tables_valid}
use Rattle.table.proofs.Names.{valid_inside}
use Rattle.replies.specs.declared.FindError.{FindError}
use Rattle.replies.specs.declared.FindError.TheVariants.{FalseTables, NoRule}
use Rattle.matcher.specs.Sought.{found_by, found_tables, found_of}

pub good_inside : (ns rs st : List ℕ) {x : Result (Unit {0}) TableError} → x ≡ tables ns rs st → x ≡ Ok tt → NamesInside rs st
good_inside ns rs st e g = valid_inside (tables_valid ns rs st (sym e ∙ g))

not_good : (x : Result (Unit {0}) TableError) (f : Unit {0} → Result ℕ FindError) → (x ≡ Ok tt → ⊥) → found_tables x f ≡ Err FalseTables
not_good (Ok _) f h = absurd (h refl)
not_good (Err TableError.Shape) f h = refl
not_good (Err (TableError.Node i)) f h = refl
not_good (Err (TableError.Rule k)) f h = refl

module _ (ns rs st name : List ℕ) {x : Result (Unit {0}) TableError} (e : x ≡ tables ns rs st) where
  past : {y : Result (Unit {0}) TableError} → x ≡ y → found_of ns rs st name ≡ found_tables y (λ u. found_by (rule_named rs st name))
  unfolding found_of
  past q = ap (λ z. found_tables z (λ u. found_by (rule_named rs st name))) (sym e ∙ q)

  pub found_false : (x ≡ Ok tt → ⊥) → Err FalseTables ≡ found_of ns rs st name
  found_false h = sym (past refl ∙ not_good x _ h)

  module _ (g : x ≡ Ok tt) {y : Option ℕ} (f : y ≡ rule_named rs st name) where
    past_tables : {z : Option ℕ} → y ≡ z → found_of ns rs st name ≡ found_by z
    past_tables q = past g ∙ ap found_by (sym f ∙ q)

    pub found_by_lem : {k : ℕ} → y ≡ Some k → Ok k ≡ found_of ns rs st name
    found_by_lem q = sym (past_tables q)

    pub found_nobody : y ≡ None → Err NoRule ≡ found_of ns rs st name
    found_nobody q = sym (past_tables q)
