-- What a reading answers decides the case. After one that succeeded the fronts of the lent buffers are the tables of the text's
-- rules, and these have the room.
use Rattle.std.specs.Prelude.{ℕ, Result, Ok, Err}
use Prim.Native.Nat.{ℕ, ◌*◌, ◌≤◌}
use mathlib.Core.Path.{◌≡◌, sym, ap, ◌∙◌}
use mathlib.Core.List.{List}
use native.Mathlib.Omega.{arith}
use lib.Dec.{eqb}
use lib.ListN.{length, take, drop, length-append}
use lib.Seq.{take_at}
use borrow.Author.Tests.{ne_eqb}
use Rattle.text.specs.Booleans.{choose}
use Rattle.text.specs.Splice.{fronted}
use Rattle.table.specs.Tree.{rules_stored}
use Rattle.table.specs.Record.{node_size, rule_size}
use Rattle.table.specs.Flat.{nodes_of, records_of}
use Rattle.table.proofs.Rules.{length_nodes, length_records}
use Rattle.structure.specs.declared.Edition.TheVariants.{First}
use Rattle.structure.specs.declared.Level.TheVariants.{Tagged}
use Rattle.structure.specs.declared.Why.{Why}
use Rattle.structure.specs.declared.Refusal.{Refusal}
use Rattle.build.specs.Rules.{rules_read}
use Rattle.reader.specs.Read.{refused_by, room_for_nodes, room_for_rules, read_of, left_in, refusal, number_of, numbered, reported, Leaves}
use Rattle.reader.specs.Lines.{line_in}
use Rattle.reader.proofs.Answers.{numbered_one}
use Rattle.reader.proofs.Counts.{read_counts}

-- ---- the case

no_reason : (w : Why) → number_of w ≡ 0 → ⊥
unfolding numbered
no_reason w e =
    let q = numbered_one (refused_by w 0) (Ok (0, 0, 0)) (ap (λ (n : ℕ). refusal n 0) e) in
    let z : ◌≡◌ {A = ℕ} 0 1 = cc in
    omega arith

-- f where a reading's number is 0, else g of its number and place
abbrev pub by_number : {A : Type 0} → (Unit {0} → A) → (ℕ → ℕ → A) → Result (ℕ × ℕ × ℕ) Refusal → A
by_number f g a = choose (eqb (numbered a).number 0) f (λ u. g (numbered a).number (numbered a).place)

module _ {A : Type 0} (f : Unit {0} → A) (g : ℕ → ℕ → A) {a : Result (ℕ × ℕ × ℕ) Refusal} where
  pub by_read : {x y z : ℕ} → a ≡ Ok (x, y, z) → by_number f g a ≡ f tt
  unfolding numbered
  by_read e = rw e

  pub by_refused : {r : Refusal} → a ≡ Err r → by_number f g a ≡ g (number_of r.why) r.place
  unfolding numbered
  by_refused {r} e = rw (e, ne_eqb (number_of r.why) 0 (no_reason r.why))

-- ---- the buffers

-- the front of a buffer is a table
abbrev pub Front : ℕ → List ℕ → List ℕ → Type 0
Front k o x = (k ≤ length o) × (take k o ≡ x)

front : (x o o' : List ℕ) (k : ℕ) → o' ≡ fronted x o → k ≡ length x → Front k o' x
unfolding fronted
front x o o' k e h = let a = ap length e ∙ length-append x (drop (length x) o) in (omega arith, ap (take k) e ∙ take_at x (drop (length x) o) k (sym h))

-- of a reading that counted x nodes, y rules and z store bytes
pub record Fronts (s ns rs : List ℕ) (x y z : ℕ) (ns' rs' st' : List ℕ) : Type 0 where
  pub few_nodes : x ≤ room_for_nodes ns
  pub few_rules : y ≤ room_for_rules rs
  pub nodes : Front (node_size * x) ns' (nodes_of (line_in s) (rules_read Tagged s))
  pub rules : Front (rule_size * y) rs' (records_of (rules_read Tagged s))
  pub store : Front z st' (rules_stored (rules_read Tagged s))

-- what `read` promises of its answer and of the buffers afterwards
abbrev pub Promised : (s ns rs st : List ℕ) → Result (ℕ × ℕ × ℕ) Refusal → (ns' rs' st' : List ℕ) → Type 0
Promised s ns rs st a ns' rs' st' =
    (a ≡ read_of First Tagged s (room_for_nodes ns) (room_for_rules rs) (length st))
    × ((numbered a ≡ reported First Tagged s (room_for_nodes ns) (room_for_rules rs) (length st))
    × ((ns' ≡ left_in a (nodes_of (line_in s) (rules_read Tagged s)) ns) × ((rs' ≡ left_in a (records_of (rules_read Tagged s)) rs) × (st' ≡ left_in a (rules_stored (rules_read Tagged s)) st))))

module _ (s ns rs st : List ℕ) (a : Result (ℕ × ℕ × ℕ) Refusal) (ns' rs' st' : List ℕ) (p : Promised s ns rs st a ns' rs' st') where
  pub leaves : Leaves Tagged s (read_of First Tagged s (room_for_nodes ns) (room_for_rules rs) (length st)) ns rs st ns' rs' st'
  leaves = let e = p.0 in record { nodes = rw (← e) p.1.1.0; rules = rw (← e) p.1.1.1.0; store = rw (← e) p.1.1.1.1 }

  pub fronts : {x y z : ℕ} → a ≡ Ok (x, y, z) → Fronts s ns rs x y z ns' rs' st'
  unfolding left_in
  fronts q =
      let us = rules_read Tagged s in
      let t = read_counts First Tagged s (room_for_nodes ns) (room_for_rules rs) (length st) (sym p.0 ∙ q) in
      record {
        few_nodes = rw t.nodes_are t.nodes_fit;
        few_rules = rw t.rules_are t.rules_fit;
        nodes = front (nodes_of (line_in s) us) ns ns' _ (p.1.1.0 ∙ rw q) (ap (λ (k : ℕ). node_size * k) t.nodes_are ∙ sym (length_nodes (line_in s) 0 0 us));
        rules = front (records_of us) rs rs' _ (p.1.1.1.0 ∙ rw q) (ap (λ (k : ℕ). rule_size * k) t.rules_are ∙ sym (length_records 0 0 us));
        store = front (rules_stored us) st st' _ (p.1.1.1.1 ∙ rw q) t.store_is;
      }
