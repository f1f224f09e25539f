-- Rules in tables: flattening and reading back undo each other.
use mathlib.Core.Path.{◌≡◌, refl, sym, ap, ◌∙◌}
use mathlib.Core.Bool.{true}
use mathlib.Core.List.{List, [], ◌∷◌, ◌++◌}
use mathlib.Core.Logic.{⊎_elim}
use Prim.Native.Nat.{ℕ, zero, suc, ◌+◌, ◌*◌, ◌≤◌, ◌<◌}
use native.Mathlib.Nat.{eq-or-lt_of_le}
use native.Mathlib.Omega.{arith}
use lib.Dec.{leb}
use lib.ListN.{length, length-append}
use borrow.Author.Tests.{le-leb, lt-ltb, eq-eqb}
use Rattle.table.specs.Tree.{Span, Rule, below, count, counts, stored, rule_stored, rules_stored}
use Rattle.table.specs.Record.{node_size, rule_size, nodes_in, rules_in, part, span_at, row_at, first_at, name_offset, name_length, name_at, mark_at, root_at, name_span, RuleRow, rule_row_at, rule_made, rule_at, rules_from, rules_of}
use Rattle.table.specs.Flat.{flat, rule_record, nodes_from, records_from, nodes_of, records_of, Lies, rule_row, RulesLie}
use Rattle.table.specs.Check.{is_name, good_at, begin_at, good_name, good_root, good_rule, fine, fine_rule, fine_rules, Valid}
use Rattle.text.proofs.Tests.{lt_or_ge}
use Rattle.text.proofs.Booleans.{and_both, and_true}
use Rattle.text.specs.Limits.{max_nodes, max_rules, max_store}
use Rattle.table.proofs.Held.{Held, held_whole, held_left, held_right, held_inside, held_part, held_at}
use Rattle.table.proofs.Flats.{span_is, length_flat, Holds, lies_flat}
use Rattle.table.proofs.Trees.{lies_tree, lies_alike, flat_first, flat_good}

-- ---- lengths

pub length_nodes : (line : ℕ → ℕ) (i at : ℕ) (us : List (Rule Span)) → length (nodes_from line i at us) ≡ node_size * counts us
unfolding nodes_from counts
length_nodes line i at [] = refl
length_nodes line i at (r ∷ us) =
    length-append (flat line i (at + length r.name) r.tree) (nodes_from line (i + count r.tree) (at + length (rule_stored r)) us)
    ∙ omega (arith, length_flat line i (at + length r.name) r.tree, length_nodes line (i + count r.tree) (at + length (rule_stored r)) us)

pub length_rule : (at root : ℕ) (r : Rule Span) → length (rule_record at root r) ≡ rule_size
unfolding rule_record
length_rule at root r = refl

pub length_records : (i at : ℕ) (us : List (Rule Span)) → length (records_from i at us) ≡ rule_size * length us
unfolding records_from
length_records i at [] = refl
length_records i at (r ∷ us) =
    length-append (rule_record at (i + below r.tree) r) (records_from (i + count r.tree) (at + length (rule_stored r)) us)
    ∙ omega (arith, length_rule at (i + below r.tree) r, length_records (i + count r.tree) (at + length (rule_stored r)) us)

-- ---- tables that have the records of rules

-- what a rule's record says
pub record RuleRecorded (rs : List ℕ) (k at root : ℕ) (r : Rule Span) : Type 0 where
  pub offset : name_offset rs k ≡ at
  pub long : name_length rs k ≡ length r.name
  pub marked : mark_at rs k ≡ r.mark
  pub rooted : root_at rs k ≡ root
  pub spanned : name_span rs k ≡ r.place

pub rule_recorded : (rs : List ℕ) (k at root : ℕ) (r : Rule Span) → Held rs (rule_size * k) (rule_record at root r) → RuleRecorded rs k at root r
unfolding rule_record
rule_recorded rs k at root r h = record {
  offset = held_at 0 (rule_size * k) h (omega arith);
  long = held_at 1 (rule_size * k + 1) h refl;
  marked = held_at 2 (rule_size * k + 2) h refl;
  rooted = held_at 3 (rule_size * k + 3) h refl;
  spanned = span_is r.place _ _ (held_at 4 (rule_size * k + 4) h refl) (held_at 5 (rule_size * k + 5) h refl);
}

-- tables that have the records of rules from index k on, their nodes from index i on, and their texts from an offset on
pub record RulesHold (line : ℕ → ℕ) (ns rs st : List ℕ) (k i at : ℕ) (us : List (Rule Span)) : Type 0 where
  pub nodes : Held ns (node_size * i) (nodes_from line i at us)
  pub records : Held rs (rule_size * k) (records_from i at us)
  pub store : Held st at (rules_stored us)

pub flat_holds : (line : ℕ → ℕ) (us : List (Rule Span)) → RulesHold line (nodes_of line us) (records_of us) (rules_stored us) 0 0 0 us
flat_holds line us = record { nodes = held_whole (nodes_of line us); records = held_whole (records_of us); store = held_whole (rules_stored us) }

module _ {line : ℕ → ℕ} {ns rs st : List ℕ} {k i at : ℕ} {r : Rule Span} {us : List (Rule Span)} (h : RulesHold line ns rs st k i at (r ∷ us)) where
  first_record : RuleRecorded rs k at (i + below r.tree) r
  unfolding records_from
  first_record = rule_recorded rs k at (i + below r.tree) r
      (held_left (rule_record at (i + below r.tree) r) (records_from (i + count r.tree) (at + length (rule_stored r)) us) h.records)

  first_store : Held st at (rule_stored r)
  unfolding rules_stored
  first_store = held_left (rule_stored r) (rules_stored us) h.store

  first_name : Held st at r.name
  unfolding rule_stored
  first_name = held_left r.name (stored r.tree) first_store

  first_tree : Holds line ns st i (at + length r.name) r.tree
  unfolding nodes_from rule_stored
  first_tree = record {
    table = held_left (flat line i (at + length r.name) r.tree) (nodes_from line (i + count r.tree) (at + length (rule_stored r)) us) h.nodes;
    store = held_right (at + length r.name) r.name (stored r.tree) refl first_store;
  }

  later_rules : RulesHold line ns rs st (suc k) (i + count r.tree) (at + length (rule_stored r)) us
  unfolding nodes_from records_from rules_stored
  later_rules = record {
    nodes = held_right (node_size * (i + count r.tree)) (flat line i (at + length r.name) r.tree) (nodes_from line (i + count r.tree) (at + length (rule_stored r)) us)
        (omega (arith, length_flat line i (at + length r.name) r.tree)) h.nodes;
    records = held_right (rule_size * suc k) (rule_record at (i + below r.tree) r) (records_from (i + count r.tree) (at + length (rule_stored r)) us)
        (omega (arith, length_rule at (i + below r.tree) r)) h.records;
    store = held_right (at + length (rule_stored r)) (rule_stored r) (rules_stored us) refl h.store;
  }

  name_back : name_at rs st k ≡ r.name
  name_back = let c = first_record in ap (λ (x : ℕ). part st x (name_length rs k)) c.offset ∙ ap (part st at) c.long ∙ held_part first_name

row_as : {x y : RuleRow} → x.name ≡ y.name → x.mark ≡ y.mark → x.root ≡ y.root → x.span ≡ y.span → x ≡ y
row_as {x} {y} a b c d =
    ap (λ z. record { name = z; mark = x.mark; root = x.root; span = x.span }) a
    ∙ ap (λ z. record { name = y.name; mark = z; root = x.root; span = x.span }) b
    ∙ ap (λ z. record { name = y.name; mark = y.mark; root = z; span = x.span }) c
    ∙ ap (λ z. record { name = y.name; mark = y.mark; root = y.root; span = z }) d

rule_row_back : {line : ℕ → ℕ} {ns rs st : List ℕ} {k i at : ℕ} {r : Rule Span} {us : List (Rule Span)} → RulesHold line ns rs st k i at (r ∷ us) → rule_row_at rs st k ≡ rule_row i r
unfolding rule_row_at
rule_row_back h = let c = first_record h in row_as (name_back h) c.marked c.rooted c.spanned

-- tables that have the records of rules have the rules
pub rules_lie_flat : {line : ℕ → ℕ} (ns rs st : List ℕ) (k i at : ℕ) (us : List (Rule Span)) → RulesHold line ns rs st k i at us → RulesLie ns rs st k i us
rules_lie_flat ns rs st k i at [] h = tt
rules_lie_flat ns rs st k i at (r ∷ us) h = (
  rule_row_back h,
  lies_flat i (at + length r.name) r.tree (first_tree h),
  rules_lie_flat ns rs st (suc k) (i + count r.tree) (at + length (rule_stored r)) us (later_rules h),
)

-- ---- rules that lie in tables

module _ (ns rs st : List ℕ) where
  rule_back : (k i : ℕ) (r : Rule Span) → rule_row_at rs st k ≡ rule_row i r → Lies ns st i r.tree → rule_at ns rs st k ≡ r
  unfolding rule_at
  rule_back k i r e h =
      ap (rule_made ns st) e
      ∙ ap (λ t. record { name = r.name; mark = r.mark; tree = t; place = r.place }) (lies_tree ns st i r.tree (i + below r.tree) refl h)

  -- they are read back
  pub rules_back_lem : (k i : ℕ) (us : List (Rule Span)) → RulesLie ns rs st k i us → rules_from ns rs st k (length us) ≡ us
  unfolding rules_from
  rules_back_lem k i [] h = refl
  rules_back_lem k i (r ∷ us) h =
      ap (λ x. x ∷ rules_from ns rs st (suc k) (length us)) (rule_back k i r h.0 h.1) ∙ ap (λ xs. r ∷ xs) (rules_back_lem (suc k) (i + count r.tree) us h.2)

  length_rules : (k n : ℕ) → length (rules_from ns rs st k n) ≡ n
  unfolding rules_from
  length_rules k zero = refl
  length_rules k (suc n) = ap suc (length_rules (suc k) n)

  -- as many as there are records
  pub rules_many : length (rules_of ns rs st) ≡ rules_in rs
  unfolding rules_of
  rules_many = length_rules 0 (rules_in rs)

  -- one more, at the end
  pub rules_more : (k n : ℕ) → rules_from ns rs st k (suc n) ≡ rules_from ns rs st k n ++ (rule_at ns rs st (k + n) ∷ [])
  unfolding rules_from
  rules_more k zero = let z : k + 0 ≡ k = omega arith in rw z
  rules_more k (suc n) = let z : suc k + n ≡ k + suc n = omega arith in ap (λ xs. rule_at ns rs st k ∷ xs) (rw z at (rules_more (suc k) n))

module _ (ns rs st ns' rs' st' : List ℕ) where
  -- rules lie in tables in one way, but for where their texts are
  pub nodes_alike : (k i : ℕ) (us : List (Rule Span)) → RulesLie ns rs st k i us → RulesLie ns' rs' st' k i us
      → (m : ℕ) → i ≤ m → m < i + counts us → (span_at ns m ≡ span_at ns' m) × (row_at ns st m ≡ row_at ns' st' m)
  unfolding counts
  nodes_alike k i [] h g m l u = absurd (omega arith)
  nodes_alike k i (r ∷ us) h g m l u = ⊎_elim
      (λ x. lies_alike ns st ns' st' i r.tree h.1 g.1 m l (omega arith))
      (λ y. nodes_alike (suc k) (i + count r.tree) us h.2 g.2 m y (omega arith))
      (lt_or_ge m (i + count r.tree))

  pub rules_alike : (k i : ℕ) (us : List (Rule Span)) → RulesLie ns rs st k i us → RulesLie ns' rs' st' k i us
      → (m : ℕ) → k ≤ m → m < k + length us → rule_row_at rs st m ≡ rule_row_at rs' st' m
  rules_alike k i [] h g m l u = absurd (omega arith)
  rules_alike k i (r ∷ us) h g m l u = ⊎_elim
      (λ e. let z : m ≡ k = omega arith in rw z (h.0 ∙ sym g.0))
      (λ n. rules_alike (suc k) (i + count r.tree) us h.2 g.2 m n (omega arith))
      (eq-or-lt_of_le l)

-- ---- flattened rules

records_in : (us : List (Rule Span)) → rules_in (records_of us) ≡ length us
records_in us = omega (arith, length_records 0 0 us)

nodes_in_lem : (line : ℕ → ℕ) (us : List (Rule Span)) → nodes_in (nodes_of line us) ≡ counts us
nodes_in_lem line us = omega (arith, length_nodes line 0 0 us)

pub flat_lie : (line : ℕ → ℕ) (us : List (Rule Span)) → RulesLie (nodes_of line us) (records_of us) (rules_stored us) 0 0 us
flat_lie line us = rules_lie_flat (nodes_of line us) (records_of us) (rules_stored us) 0 0 0 us (flat_holds line us)

-- the tables of rules are read back as the rules
pub flat_back : (line : ℕ → ℕ) (us : List (Rule Span)) → rules_of (nodes_of line us) (records_of us) (rules_stored us) ≡ us
unfolding rules_of
flat_back line us =
    ap (rules_from (nodes_of line us) (records_of us) (rules_stored us) 0) (records_in us)
    ∙ rules_back_lem (nodes_of line us) (records_of us) (rules_stored us) 0 0 us (flat_lie line us)

-- the records of fine rules aren't false
module _ {line : ℕ → ℕ} (ns rs st : List ℕ) where
  nodes_good : (k i at : ℕ) (us : List (Rule Span)) → RulesHold line ns rs st k i at us → fine_rules us ≡ true
      → (m : ℕ) → i ≤ m → m < i + counts us → good_at ns st m ≡ true
  unfolding counts fine_rules fine_rule
  nodes_good k i at [] h f m l u = absurd (omega arith)
  nodes_good k i at (r ∷ us) h f m l u =
      let g = and_true (fine_rule r) (fine_rules us) f in
      let t = and_true (leb r.mark 4) (fine r.tree) (and_true (is_name r.name) _ g.0).1 in
      ⊎_elim
      (λ x. flat_good i (at + length r.name) r.tree (first_tree h) t.1 m l (omega arith))
      (λ y. nodes_good (suc k) (i + count r.tree) (at + length (rule_stored r)) us (later_rules h) g.1 m y (omega arith))
      (lt_or_ge m (i + count r.tree))

  rule_good : (k i at : ℕ) (r : Rule Span) (us : List (Rule Span)) → RulesHold line ns rs st k i at (r ∷ us) → fine_rule r ≡ true → begin_at rs k ≡ i → i + count r.tree ≤ nodes_in ns
      → good_rule ns rs st k ≡ true
  unfolding good_rule good_name good_root fine_rule
  rule_good k i at r us h f b n =
      let c = first_record h in
      let g = and_true (is_name r.name) _ f in
      let t = and_true (leb r.mark 4) (fine r.tree) g.1 in
      and_both _ _
      (and_both _ _ (le-leb (name_offset rs k + name_length rs k) (length st) (omega (arith, c.offset, c.long, held_inside (first_name h)))) (ap is_name (name_back h) ∙ g.0))
      (and_both _ _ (ap (λ (x : ℕ). leb x 4) c.marked ∙ t.0)
      (and_both _ _ (lt-ltb (root_at rs k) (nodes_in ns) (omega (arith, c.rooted)))
      (eq-eqb (first_at ns (root_at rs k)) (begin_at rs k) (flat_first i (at + length r.name) r.tree (root_at rs k) c.rooted (first_tree h) ∙ sym b))))

  rules_good : (k i at : ℕ) (us : List (Rule Span)) → RulesHold line ns rs st k i at us → fine_rules us ≡ true → begin_at rs k ≡ i → i + counts us ≤ nodes_in ns
      → (m : ℕ) → k ≤ m → m < k + length us → good_rule ns rs st m ≡ true
  unfolding counts fine_rules
  rules_good k i at [] h f b n m l u = absurd (omega arith)
  rules_good k i at (r ∷ us) h f b n m l u =
      let g = and_true (fine_rule r) (fine_rules us) f in
      ⊎_elim
      (λ e. let z : m ≡ k = omega arith in rw z (rule_good k i at r us h g.0 b (omega arith)))
      (λ v. rules_good (suc k) (i + count r.tree) (at + length (rule_stored r)) us (later_rules h) g.1 (omega (arith, (first_record h).rooted)) (omega arith) m v (omega arith))
      (eq-or-lt_of_le l)

  -- the last of them ends with the last node
  begin_last : (k i at : ℕ) (us : List (Rule Span)) → RulesHold line ns rs st k i at us → begin_at rs k ≡ i → begin_at rs (k + length us) ≡ i + counts us
  unfolding counts
  begin_last k i at [] h b = let z : k + 0 ≡ k = omega arith in rw z (omega arith)
  begin_last k i at (r ∷ us) h b =
      let z : k + suc (length us) ≡ suc k + length us = omega arith in
      rw z (begin_last (suc k) (i + count r.tree) (at + length (rule_stored r)) us (later_rules h) (omega (arith, (first_record h).rooted)) ∙ omega arith)

-- the tables of fine rules within the limits aren't false
pub flat_valid : (line : ℕ → ℕ) (us : List (Rule Span)) → fine_rules us ≡ true → counts us ≤ max_nodes → length us ≤ max_rules → length (rules_stored us) ≤ max_store
    → Valid (nodes_of line us) (records_of us) (rules_stored us)
flat_valid line us f n m s =
    let h = flat_holds line us in
    let p = nodes_in_lem line us in
    let q = records_in us in
    record {
      whole_nodes = omega (arith, length_nodes line 0 0 us);
      few_nodes = omega arith;
      whole_rules = omega (arith, length_records 0 0 us);
      few_rules = omega arith;
      short = s;
      nodes = record {
        whole = omega arith;
        good = λ k l. nodes_good (nodes_of line us) (records_of us) (rules_stored us) 0 0 0 us h f k (omega arith) (omega arith);
      };
      rules = λ k l. rules_good (nodes_of line us) (records_of us) (rules_stored us) 0 0 0 us h f refl (omega arith) k (omega arith) (omega arith);
      all = let e : rules_in (records_of us) ≡ 0 + length us = omega arith in
          ap (begin_at (records_of us)) e ∙ begin_last (nodes_of line us) (records_of us) (rules_stored us) 0 0 0 us h refl ∙ omega arith;
    }
