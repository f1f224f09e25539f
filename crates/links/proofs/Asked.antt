-- Laws of the questions before any line, in their order.
use Rattle.std.specs.Prelude.{ℕ, Option, Some, None, Result, Ok, Err}
use mathlib.Core.Bool.{Bool, true, false}
use mathlib.Core.Path.{◌≡◌, refl, sym, ap, ◌∙◌}
use mathlib.Core.List.{List}
use Prim.Native.Nat.{ℕ, ◌≤◌, ◌<◌}
use native.Mathlib.Omega.{arith}
use lib.Dec.{ltb}
use borrow.Author.Tests.{lt-ltb, le-ltb, ltb-true}
use Rattle.table.proofs.Booleans.{and_both, and_first, and_second, and_true, choose_false, choose_true}
use Rattle.table.specs.declared.TableError.{TableError}
use Rattle.table.specs.Characters.{choose}
use Rattle.table.specs.Record.{nodes_in, rules_in}
use Rattle.table.specs.Check.{is_through, lowest, tables, Valid}
use Rattle.table.proofs.Tables.{tables_valid}
use Rattle.replies.specs.declared.RunError.{RunError}
use Rattle.replies.specs.declared.RunError.TheVariants.{FalseTables, Unfit, NoRule}
use Rattle.links.specs.Program.{fit_at, own_at, known_at, named}
use Rattle.links.specs.Ready.{ready_names, ready_nodes, ready_tables, ready_of}

not_good : (x : Result (Unit {0}) TableError) (f : Unit {0} → Result (Unit {0}) RunError) → (x ≡ Ok tt → ⊥) → ready_tables x f ≡ Err FalseTables
not_good (Ok _) f h = absurd (h refl)
not_good (Err TableError.Shape) f h = refl
not_good (Err (TableError.Node i)) f h = refl
not_good (Err (TableError.Rule k)) f h = refl

module _ (ns rs st : List ℕ) (start : ℕ) {x : Result (Unit {0}) TableError} (e : x ≡ tables ns rs st) where
  past : {y : Result (Unit {0}) TableError} → x ≡ y → ready_of ns rs st start ≡ ready_tables y (λ u. ready_nodes (lowest (fit_at ns) (nodes_in ns)) (λ u. ready_names ns rs st start))
  unfolding ready_of
  past q = ap (λ z. ready_tables z (λ u. ready_nodes (lowest (fit_at ns) (nodes_in ns)) (λ u. ready_names ns rs st start))) (sym e ∙ q)

  pub ready_false : (x ≡ Ok tt → ⊥) → Err FalseTables ≡ ready_of ns rs st start
  ready_false h = sym (past refl ∙ not_good x _ h)

  module _ (g : x ≡ Ok tt) where
    pub ready_valid : Valid ns rs st
    ready_valid = tables_valid ns rs st (sym e ∙ g)

    module _ {y : Option ℕ} (f : y ≡ lowest (fit_at ns) (nodes_in ns)) where
      past_nodes : {z : Option ℕ} → y ≡ z → ready_of ns rs st start ≡ ready_nodes z (λ u. ready_names ns rs st start)
      past_nodes q = past g ∙ ap (λ z. ready_nodes z (λ u. ready_names ns rs st start)) (sym f ∙ q)

      pub ready_unfit : {i : ℕ} → y ≡ Some i → Err (Unfit i) ≡ ready_of ns rs st start
      ready_unfit q = sym (past_nodes q)

      module _ (n : y ≡ None) where
        no_names : named ns rs st start ≡ false → Err NoRule ≡ ready_of ns rs st start
        unfolding ready_names
        no_names q = sym (past_nodes n ∙ choose_false (named ns rs st start) _ _ q)

        pub ready_start : rules_in rs ≤ start → Err NoRule ≡ ready_of ns rs st start
        unfolding named
        ready_start h = no_names (and_first _ _ (le-ltb start (rules_in rs) h))

        pub ready_own : {t : Bool} → t ≡ is_through (lowest (own_at rs st) (rules_in rs)) → t ≡ false → Err NoRule ≡ ready_of ns rs st start
        unfolding named
        ready_own h q = no_names (and_second (ltb start (rules_in rs)) _ (and_first _ (is_through (lowest (known_at ns rs st) (nodes_in ns))) (sym h ∙ q)))

        pub ready_known : {t : Bool} → t ≡ is_through (lowest (known_at ns rs st) (nodes_in ns)) → t ≡ false → Err NoRule ≡ ready_of ns rs st start
        unfolding named
        ready_known h q = no_names (and_second (ltb start (rules_in rs)) _ (and_second (is_through (lowest (own_at rs st) (rules_in rs))) _ (sym h ∙ q)))

        pub ready_yes : {s t : Bool} → start < rules_in rs → s ≡ is_through (lowest (own_at rs st) (rules_in rs)) → s ≡ true → t ≡ is_through (lowest (known_at ns rs st) (nodes_in ns)) → t ≡ true → Ok tt ≡ ready_of ns rs st start
        unfolding named ready_names
        ready_yes l h p k q = sym (past_nodes n ∙ choose_true (named ns rs st start) _ _ (and_both _ _ (lt-ltb start (rules_in rs) l) (and_both _ _ (sym h ∙ p) (sym k ∙ q))))

-- ---- what a call may lean on when nothing is refused

ready_tables_lem : (t : Result (Unit {0}) TableError) (f : Unit {0} → Result (Unit {0}) RunError) → ready_tables t f ≡ Ok tt → (t ≡ Ok tt) × (f tt ≡ Ok tt)
ready_tables_lem (Ok _) f e = (refl, e)
ready_tables_lem (Err TableError.Shape) f e = let z : ◌≡◌ {A = ℕ} 0 1 = cc in absurd (omega arith)
ready_tables_lem (Err (TableError.Node i)) f e = let z : ◌≡◌ {A = ℕ} 0 1 = cc in absurd (omega arith)
ready_tables_lem (Err (TableError.Rule i)) f e = let z : ◌≡◌ {A = ℕ} 0 1 = cc in absurd (omega arith)

ready_nodes_lem : (t : Option ℕ) (f : Unit {0} → Result (Unit {0}) RunError) → ready_nodes t f ≡ Ok tt → f tt ≡ Ok tt
ready_nodes_lem None f e = e
ready_nodes_lem (Some i) f e = let z : ◌≡◌ {A = ℕ} 0 1 = cc in absurd (omega arith)

yes_true : (b : Bool) → choose {A = Result (Unit {0}) RunError} b (λ u. Ok tt) (λ u. Err NoRule) ≡ Ok tt → b ≡ true
yes_true true e = refl
yes_true false e = let z : ◌≡◌ {A = ℕ} 0 1 = cc in absurd (omega arith)

pub record Allowed (ns rs st : List ℕ) (start : ℕ) : Type 0 where
  pub valid : Valid ns rs st
  pub there : start < rules_in rs
  pub names : named ns rs st start ≡ true

pub ready_allows : (ns rs st : List ℕ) (start : ℕ) {r : Result (Unit {0}) RunError} → r ≡ ready_of ns rs st start → r ≡ Ok tt → Allowed ns rs st start
unfolding ready_of ready_names named
ready_allows ns rs st start e q =
    let t = ready_tables_lem (tables ns rs st) _ (sym e ∙ q) in
    let n = ready_nodes_lem (lowest (fit_at ns) (nodes_in ns)) _ t.1 in
    let b = yes_true (named ns rs st start) n in
    record { valid = tables_valid ns rs st t.0; there = ltb-true start (rules_in rs) (and_true (ltb start (rules_in rs)) _ b).0; names = b }
