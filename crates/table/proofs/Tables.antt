-- Tables that aren't false: what a good check gives its callers.
use Rattle.std.specs.Prelude.{ℕ, Option, Some, None, Result, Ok, Err}
use mathlib.Core.Path.{◌≡◌, refl, sym, ap, ◌∙◌}
use mathlib.Core.Bool.{Bool, true, false}
use mathlib.Core.List.{List}
use Prim.Native.Nat.{ℕ, zero, suc, ◌+◌, ◌%◌, ◌≤◌, ◌<◌}
use native.Mathlib.Omega.{arith}
use lib.Dec.{leb, ltb, eqb}
use lib.ListN.{length}
use borrow.Author.Tests.{le-leb, lt-leb, eq-eqb, ne_eqb, leb-true, ltb-true, eqb-true}
use Rattle.table.specs.Tree.{Span, Rule, below, count, counts, rules_stored}
use Rattle.table.specs.Record.{node_size, rule_size, nodes_in, rules_in, tree_at, first_at, name_offset, name_length, name_at, mark_at, root_at, name_span, rule_row_at, rule_at, rules_from, rules_of}
use Rattle.table.specs.Flat.{nodes_of, records_of, rule_row, RulesLie, Alike}
use Rattle.table.specs.Check.{in_store, is_name, good_at, begin_at, good_name, good_root, good_rule, lowest, or_else, left_over, shaped, tables, Numbered, numbered, fine_rule, fine_rules, SoundUpTo, Valid}
use Rattle.table.proofs.Trees.{read}
use Rattle.table.proofs.Nodes.{sound_below}
use Rattle.table.proofs.Lowest.{lowest_good, lowest_all}
use Rattle.table.proofs.Rules.{length_nodes, length_records, rules_many, nodes_alike, rules_alike, flat_lie, flat_valid}
use Rattle.text.specs.Booleans.{choose}
use Rattle.text.proofs.Booleans.{and_both, and_true, choose_false, choose_true}
use Rattle.text.specs.Limits.{max_nodes, max_rules, max_store}
use Rattle.table.specs.declared.TableError.{TableError}

-- what a rule that isn't false says
pub record RuleSound (ns rs st : List ℕ) (k : ℕ) : Type 0 where
  pub in_store : name_offset rs k + name_length rs k ≤ length st
  pub named : is_name (name_at rs st k) ≡ true
  pub marked : mark_at rs k ≤ 4
  pub rooted : root_at rs k < nodes_in ns
  pub begins : first_at ns (root_at rs k) ≡ begin_at rs k

pub rule_sound : (ns rs st : List ℕ) (k : ℕ) → good_rule ns rs st k ≡ true → RuleSound ns rs st k
unfolding good_rule good_name good_root
rule_sound ns rs st k g =
    let a = and_true (good_name rs st k) _ g in
    let b = and_true (in_store st (name_offset rs k) (name_length rs k)) (is_name (name_at rs st k)) a.0 in
    let c = and_true (leb (mark_at rs k) 4) (good_root ns (begin_at rs k) (root_at rs k)) a.1 in
    let d = and_true (ltb (root_at rs k) (nodes_in ns)) (eqb (first_at ns (root_at rs k)) (begin_at rs k)) c.1 in
    record {
      in_store = leb-true _ _ b.0;
      named = b.1;
      marked = leb-true _ _ c.0;
      rooted = ltb-true _ _ d.0;
      begins = eqb-true _ _ d.1;
    }

module _ {ns rs st : List ℕ} (v : Valid ns rs st) where
  -- a rule's record, and the nodes of its tree
  pub sound_at : (k : ℕ) → k < rules_in rs → RuleSound ns rs st k
  sound_at k l = rule_sound ns rs st k (v.rules k l)

  pub sound_root : (k : ℕ) → k < rules_in rs → SoundUpTo ns st (root_at rs k + 1)
  sound_root k l = let s = sound_at k l in let b : root_at rs k + 1 ≤ nodes_in ns = omega (arith, s.rooted) in sound_below (root_at rs k + 1) b v.nodes

  row_of : (k : ℕ) → begin_at rs k + below (tree_at ns st (root_at rs k)) ≡ root_at rs k → rule_row_at rs st k ≡ rule_row (begin_at rs k) (rule_at ns rs st k)
  unfolding rule_row_at rule_at
  row_of k e = ap (λ (x : ℕ). record { name = name_at rs st k; mark = mark_at rs k; root = x; span = name_span rs k }) (sym e)

  lies_from : (n k : ℕ) → k + n ≤ rules_in rs → (i : ℕ) → i ≡ begin_at rs k → RulesLie ns rs st k i (rules_from ns rs st k n)
  unfolding rules_from rule_at rule_row_at
  lies_from zero k l i e = tt
  lies_from (suc n) k l i e =
      let s = sound_at k (omega arith) in
      let t = read v.nodes (root_at rs k) s.rooted in
      let b : first_at ns (root_at rs k) ≡ i = s.begins ∙ sym e in
      let z : begin_at rs k + below (tree_at ns st (root_at rs k)) ≡ root_at rs k = omega (arith, t.root, s.begins) in
      (rw e (row_of k z), rw b at t.lies, lies_from n (suc k) (omega arith) (i + count (tree_at ns st (root_at rs k))) (omega arith))

  -- their rules lie in them, all of them
  pub valid_lie : RulesLie ns rs st 0 0 (rules_of ns rs st)
  unfolding rules_of
  valid_lie = lies_from (rules_in rs) 0 (omega arith) 0 refl

  counts_from : (n k : ℕ) → k + n ≤ rules_in rs → begin_at rs k + counts (rules_from ns rs st k n) ≡ begin_at rs (k + n)
  unfolding rules_from counts rule_at rule_row_at
  counts_from zero k l = let z : k + 0 ≡ k = omega arith in rw z (omega arith)
  counts_from (suc n) k l =
      let s = sound_at k (omega arith) in
      let t = read v.nodes (root_at rs k) s.rooted in
      let z : k + suc n ≡ suc k + n = omega arith in
      rw z (omega (arith, t.root, s.begins, counts_from n (suc k) (omega arith)))

  -- and have all nodes
  pub valid_counts : counts (rules_of ns rs st) ≡ nodes_in ns
  unfolding rules_of
  valid_counts =
      let e = counts_from (rules_in rs) 0 (omega arith) in
      let z : 0 + rules_in rs ≡ rules_in rs = omega arith in
      omega (arith, ap (begin_at rs) z, v.all)

  fine_from : (n k : ℕ) → k + n ≤ rules_in rs → fine_rules (rules_from ns rs st k n) ≡ true
  unfolding rules_from fine_rules fine_rule rule_at rule_row_at
  fine_from zero k l = refl
  fine_from (suc n) k l =
      let s = sound_at k (omega arith) in
      let t = read v.nodes (root_at rs k) s.rooted in
      and_both _ _ (and_both _ _ s.named (and_both _ _ (le-leb (mark_at rs k) 4 s.marked) t.is_fine)) (fine_from n (suc k) (omega arith))

  -- their rules are fine
  pub valid_fine : fine_rules (rules_of ns rs st) ≡ true
  unfolding rules_of
  valid_fine = fine_from (rules_in rs) 0 (omega arith)

  -- tables that aren't false are the flattening of their rules, up to where texts lie in the store
  pub valid_alike : (line : ℕ → ℕ) → Alike ns rs st (nodes_of line (rules_of ns rs st)) (records_of (rules_of ns rs st)) (rules_stored (rules_of ns rs st))
  valid_alike line =
      let us = rules_of ns rs st in
      let c = valid_counts in
      let m = rules_many ns rs st in
      record {
        nodes = omega (arith, v.whole_nodes, length_nodes line 0 0 us);
        rules = omega (arith, v.whole_rules, length_records 0 0 us);
        spans = λ k l. (nodes_alike ns rs st (nodes_of line us) (records_of us) (rules_stored us) 0 0 us valid_lie (flat_lie line us) k (omega arith) (omega arith)).0;
        rows = λ k l. (nodes_alike ns rs st (nodes_of line us) (records_of us) (rules_stored us) 0 0 us valid_lie (flat_lie line us) k (omega arith) (omega arith)).1;
        rule_rows = λ k l. rules_alike ns rs st (nodes_of line us) (records_of us) (rules_stored us) 0 0 us valid_lie (flat_lie line us) k (omega arith) (omega arith);
      }

-- ---- the check of whole tables

pub shaped_few : (ns rs st : List ℕ) → shaped ns rs st ≡ true → nodes_in ns ≤ max_nodes
unfolding shaped
shaped_few ns rs st e =
    let a = and_true (eqb (length ns % node_size) 0) _ e in
    let b = and_true (eqb (length rs % rule_size) 0) _ a.1 in
    leb-true (nodes_in ns) max_nodes (and_true (leb (nodes_in ns) max_nodes) _ b.1).0

pub shaped_short : (ns rs st : List ℕ) → shaped ns rs st ≡ true → length st ≤ max_store
unfolding shaped
shaped_short ns rs st e =
    let a = and_true (eqb (length ns % node_size) 0) _ e in
    let b = and_true (eqb (length rs % rule_size) 0) _ a.1 in
    let c = and_true (leb (nodes_in ns) max_nodes) _ b.1 in
    leb-true (length st) max_store (and_true (leb (rules_in rs) max_rules) _ c.1).1

module _ (ns rs st : List ℕ) where
  pub tables_shape : shaped ns rs st ≡ false → tables ns rs st ≡ Err TableError.Shape
  unfolding tables
  tables_shape e = choose_false (shaped ns rs st) _ _ e

  module _ (e : shaped ns rs st ≡ true) where
    past_shape : tables ns rs st ≡ or_else (lowest (good_at ns st) (nodes_in ns)) (λ i. Err (TableError.Node i))
        (λ u. or_else (lowest (good_rule ns rs st) (rules_in rs)) (λ i. Err (TableError.Rule i)) (λ u. left_over ns rs))
    unfolding tables
    past_shape = choose_true (shaped ns rs st) _ _ e

    pub tables_node : {i : ℕ} → lowest (good_at ns st) (nodes_in ns) ≡ Some i → tables ns rs st ≡ Err (TableError.Node i)
    tables_node h = past_shape ∙ rw h

    module _ (g : lowest (good_at ns st) (nodes_in ns) ≡ None) where
      past_nodes : tables ns rs st ≡ or_else (lowest (good_rule ns rs st) (rules_in rs)) (λ i. Err (TableError.Rule i)) (λ u. left_over ns rs)
      past_nodes = past_shape ∙ rw g

      pub tables_rule : {i : ℕ} → lowest (good_rule ns rs st) (rules_in rs) ≡ Some i → tables ns rs st ≡ Err (TableError.Rule i)
      tables_rule h = past_nodes ∙ rw h

      module _ (h : lowest (good_rule ns rs st) (rules_in rs) ≡ None) where
        past_rules : tables ns rs st ≡ left_over ns rs
        past_rules = past_nodes ∙ rw h

        pub tables_left : (begin_at rs (rules_in rs) ≡ nodes_in ns → ⊥) → tables ns rs st ≡ Err (TableError.Rule (rules_in rs))
        tables_left f = past_rules ∙ choose_false (eqb (begin_at rs (rules_in rs)) (nodes_in ns)) _ _ (ne_eqb (begin_at rs (rules_in rs)) (nodes_in ns) f)

        pub tables_good : begin_at rs (rules_in rs) ≡ nodes_in ns → tables ns rs st ≡ Ok tt
        tables_good f = past_rules ∙ choose_true (eqb (begin_at rs (rules_in rs)) (nodes_in ns)) _ _ (eq-eqb (begin_at rs (rules_in rs)) (nodes_in ns) f)

-- ---- a good check is what makes tables valid

or_else_good : (c : Option ℕ) (f : ℕ → Result (Unit {0}) TableError) (g : Unit {0} → Result (Unit {0}) TableError) → ((i : ℕ) → f i ≡ Ok tt → ⊥) → or_else c f g ≡ Ok tt → (c ≡ None) × (g tt ≡ Ok tt)
or_else_good None f g n e = (refl, e)
or_else_good (Some i) f g n e = absurd (n i e)

choose_good : (b : Bool) (x y : Result (Unit {0}) TableError) → (y ≡ Ok tt → ⊥) → choose b (λ u. x) (λ u. y) ≡ Ok tt → (b ≡ true) × (x ≡ Ok tt)
choose_good true x y n e = (refl, e)
choose_good false x y n e = absurd (n e)

pub tables_valid : (ns rs st : List ℕ) → tables ns rs st ≡ Ok tt → Valid ns rs st
unfolding tables shaped
tables_valid ns rs st e =
    let s = choose_good (shaped ns rs st) _ _ (λ w. let z : ◌≡◌ {A = ℕ} 0 1 = cc in omega arith) e in
    let n = or_else_good (lowest (good_at ns st) (nodes_in ns)) _ _ (λ i w. let z : ◌≡◌ {A = ℕ} 0 1 = cc in omega arith) s.1 in
    let r = or_else_good (lowest (good_rule ns rs st) (rules_in rs)) _ _ (λ i w. let z : ◌≡◌ {A = ℕ} 0 1 = cc in omega arith) n.1 in
    let l = choose_good (eqb (begin_at rs (rules_in rs)) (nodes_in ns)) _ _ (λ w. let z : ◌≡◌ {A = ℕ} 0 1 = cc in omega arith) r.1 in
    let a = and_true (eqb (length ns % node_size) 0) _ s.0 in
    let b = and_true (eqb (length rs % rule_size) 0) _ a.1 in
    let c = and_true (leb (nodes_in ns) max_nodes) _ b.1 in
    let d = and_true (leb (rules_in rs) max_rules) (leb (length st) max_store) c.1 in
    let p = eqb-true (length ns % node_size) 0 a.0 in
    let q = eqb-true (length rs % rule_size) 0 b.0 in
    record {
      whole_nodes = omega arith;
      few_nodes = leb-true _ _ c.0;
      whole_rules = omega arith;
      few_rules = leb-true _ _ d.0;
      short = leb-true _ _ d.1;
      nodes = record { whole = omega arith; good = lowest_good (good_at ns st) (nodes_in ns) n.0 };
      rules = lowest_good (good_rule ns rs st) (rules_in rs) r.0;
      all = eqb-true _ _ l.0;
    }

valid_shaped : (ns rs st : List ℕ) → Valid ns rs st → shaped ns rs st ≡ true
unfolding shaped
valid_shaped ns rs st v =
    and_both _ _ (eq-eqb (length ns % node_size) 0 (omega (arith, v.whole_nodes)))
    (and_both _ _ (eq-eqb (length rs % rule_size) 0 (omega (arith, v.whole_rules)))
    (and_both _ _ (le-leb (nodes_in ns) max_nodes v.few_nodes)
    (and_both _ _ (le-leb (rules_in rs) max_rules v.few_rules) (le-leb (length st) max_store v.short))))

pub valid_tables : (ns rs st : List ℕ) → Valid ns rs st → tables ns rs st ≡ Ok tt
valid_tables ns rs st v =
    tables_good ns rs st (valid_shaped ns rs st v) (lowest_all (good_at ns st) (nodes_in ns) v.nodes.good) (lowest_all (good_rule ns rs st) (rules_in rs) v.rules) v.all

-- the tables of fine rules within the limits pass the check
pub flat_passes : (line : ℕ → ℕ) (us : List (Rule Span)) → fine_rules us ≡ true → counts us ≤ max_nodes → length us ≤ max_rules → length (rules_stored us) ≤ max_store
    → tables (nodes_of line us) (records_of us) (rules_stored us) ≡ Ok tt
flat_passes line us f n m s = valid_tables (nodes_of line us) (records_of us) (rules_stored us) (flat_valid line us f n m s)

-- number and place decide the answer
pub numbered_one : (x y : Result (Unit {0}) TableError) → numbered x ≡ numbered y → x ≡ y
unfolding numbered
numbered_one (Ok _) (Ok _) e = refl
numbered_one (Ok _) (Err TableError.Shape) e = cc (ap (λ (n : Numbered). n.number) e)
numbered_one (Ok _) (Err (TableError.Node i)) e = cc (ap (λ (n : Numbered). n.number) e)
numbered_one (Ok _) (Err (TableError.Rule i)) e = cc (ap (λ (n : Numbered). n.number) e)
numbered_one (Err TableError.Shape) (Ok _) e = cc (ap (λ (n : Numbered). n.number) e)
numbered_one (Err TableError.Shape) (Err TableError.Shape) e = refl
numbered_one (Err TableError.Shape) (Err (TableError.Node i)) e = cc (ap (λ (n : Numbered). n.number) e)
numbered_one (Err TableError.Shape) (Err (TableError.Rule i)) e = cc (ap (λ (n : Numbered). n.number) e)
numbered_one (Err (TableError.Node i)) (Ok _) e = cc (ap (λ (n : Numbered). n.number) e)
numbered_one (Err (TableError.Node i)) (Err TableError.Shape) e = cc (ap (λ (n : Numbered). n.number) e)
numbered_one (Err (TableError.Node i)) (Err (TableError.Node j)) e = ap (λ i. Err (TableError.Node i)) (ap (λ (n : Numbered). n.place) e)
numbered_one (Err (TableError.Node i)) (Err (TableError.Rule j)) e = cc (ap (λ (n : Numbered). n.number) e)
numbered_one (Err (TableError.Rule i)) (Ok _) e = cc (ap (λ (n : Numbered). n.number) e)
numbered_one (Err (TableError.Rule i)) (Err TableError.Shape) e = cc (ap (λ (n : Numbered). n.number) e)
numbered_one (Err (TableError.Rule i)) (Err (TableError.Node j)) e = cc (ap (λ (n : Numbered). n.number) e)
numbered_one (Err (TableError.Rule i)) (Err (TableError.Rule j)) e = ap (λ i. Err (TableError.Rule i)) (ap (λ (n : Numbered). n.place) e)
