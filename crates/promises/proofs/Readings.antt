-- Readings: the buffers that one leaves stand for the rules read (`rules_left_lem`), whatever the text. What a text that is read as
-- some rules answers with enough room and with too little, and that it is read as all rules that are the same.
use Rattle.std.specs.Prelude.{ℕ, Result, Ok, Err}
use Prim.Native.Nat.{ℕ, ◌*◌, ◌≤◌}
use mathlib.Core.Path.{◌≡◌, refl, sym, ap, ◌∙◌}
use mathlib.Core.Logic.{inl, inr, ⊎_elim}
use mathlib.Core.List.{List, [], ◌∷◌, map}
use native.Mathlib.Omega.{arith}
use lib.Dec.{leb}
use lib.ListN.{length, take, drop, length-map}
use lib.Seq.{take_at}
use borrow.Author.Tests.{le-leb}
use Rattle.text.specs.Splice.{fronted}
use Rattle.text.proofs.Booleans.{choose_by}
use Rattle.table.specs.Tree.{Tree, leaf, one, two, Rule, Nowhere, aside, aside_rule, counts, rules_stored, Same}
use Rattle.table.specs.Record.{node_size, rule_size}
use Rattle.table.specs.Flat.{nodes_of, records_of}
use Rattle.table.proofs.Rules.{length_nodes, length_records, flat_back}
use Rattle.table.proofs.Regroups.{items_aside, rules_counts, rules_store}
use Rattle.structure.specs.declared.Edition.{Edition}
use Rattle.structure.specs.declared.Level.{Level}
use Rattle.structure.specs.declared.Refusal.{Refusal}
use Rattle.structure.specs.declared.Why.TheVariants.{NotPlain}
use Rattle.reader.specs.Lines.{line_in}
use Rattle.build.specs.Rules.{rules_read}
use Rattle.reader.specs.Read.{room_by, read_of, left_in, Leaves}
use Rattle.reader.proofs.Counts.{read_counts}
use Rattle.reader.proofs.Reasons.{OfRoom}
use Rattle.promises.specs.Round.{rules_left, ReadAs}

-- ---- the buffers

-- the part used is what was put to the front
front_used : (x o o' : List ℕ) (k : ℕ) → o' ≡ fronted x o → k ≡ length x → take k o' ≡ x
unfolding fronted
front_used x o o' k e h = ap (take k) e ∙ take_at x (drop (length x) o) k (sym h)

module _ (edition : Edition) (level : Level) (s : List ℕ) (n r b : ℕ) {x y z : ℕ} (e : read_of edition level s n r b ≡ Ok (x, y, z)) where
  -- the used parts of the buffers that a reading leaves stand for exactly the rules read
  pub rules_left_lem : {ns rs st ns' rs' st' : List ℕ} → Leaves level s (Ok (x, y, z)) ns rs st ns' rs' st' → rules_left x y z ns' rs' st' ≡ rules_read level s
  unfolding left_in
  rules_left_lem {ns} {rs} {st} {ns'} {rs'} {st'} l =
      let us = rules_read level s in
      let c = read_counts edition level s n r b e in
      let a = front_used (nodes_of (line_in s) us) ns ns' (node_size * x) l.nodes (omega (arith, c.nodes_are, length_nodes (line_in s) 0 0 us)) in
      let d = front_used (records_of us) rs rs' (rule_size * y) l.rules (omega (arith, c.rules_are, length_records 0 0 us)) in
      let f = front_used (rules_stored us) st st' z l.store c.store_is in
      rw (a, d, f) (flat_back (line_in s) us)

-- ---- the same rules

aside_nowhere : (t : Tree Nowhere) → aside t ≡ t
unfolding aside
aside_nowhere (leaf s a) = refl
aside_nowhere (one s o t) = ap (one tt o) (aside_nowhere t)
aside_nowhere (two s j a b) = ap (λ x. two tt j x (aside b)) (aside_nowhere a) ∙ ap (two tt j a) (aside_nowhere b)

-- rules without spans have none to put aside
pub asides_nowhere : (us : List (Rule Nowhere)) → map aside_rule us ≡ us
asides_nowhere [] = refl
asides_nowhere (r ∷ us) =
    ap (λ (t : Tree Nowhere). record { name = r.name; mark = r.mark; tree = t; place = tt } ∷ map aside_rule us) (aside_nowhere r.tree) ∙ ap (λ (z : List (Rule Nowhere)). r ∷ z) (asides_nowhere us)

module _ {P Q : Type 0} (us : List (Rule P)) (ws : List (Rule Q)) (e : Same us ws) where
  same_counts : counts us ≡ counts ws
  same_counts = sym (rules_counts aside items_aside us) ∙ ap counts e ∙ rules_counts aside items_aside ws

  same_length : length us ≡ length ws
  same_length = sym (length-map us aside_rule) ∙ ap length e ∙ length-map ws aside_rule

  same_store : rules_stored us ≡ rules_stored ws
  same_store = sym (rules_store aside items_aside us) ∙ ap rules_stored e ∙ rules_store aside items_aside ws

  -- the same rules want the same room
  pub same_room : (n r b : ℕ) → room_by (length us) (counts us) (length (rules_stored us)) n r b ≡ room_by (length ws) (counts ws) (length (rules_stored ws)) n r b
  same_room n r b = rw (same_length, same_counts, same_store)

  -- a text that is read as rules is read as all that are the same
  pub read_same : {edition : Edition} {level : Level} {s : List ℕ} → ReadAs edition level s us → ReadAs edition level s ws
  read_same h = record {
    rules = h.rules ∙ e;
    answer = λ n r b. h.answer n r b ∙ same_room n r b;
    tables = λ n r b x y z q ns rs st ns' rs' st' l. h.tables n r b x y z q ns rs st ns' rs' st' l ∙ e;
    few_nodes = omega (arith, same_counts, h.few_nodes);
    few_rules = omega (arith, same_length, h.few_rules);
    short = omega (arith, ap length same_store, h.short);
  }

-- ---- room

-- what room can refuse by
abbrev Roomed : Result (ℕ × ℕ × ℕ) Refusal → Type 0
Roomed (Ok (n, r, b)) = Unit {0}
Roomed (Err r) = OfRoom r.why

by_room : (k c z n r b : ℕ) → Roomed (room_by k c z n r b)
unfolding room_by
by_room k c z n r b =
    choose_by Roomed (leb k r) _ _
    (λ e. choose_by Roomed (leb c n) _ _ (λ f. choose_by Roomed (leb z b) _ _ (λ g. tt) (λ g. inr (inr refl))) (λ f. inr (inl refl)))
    (λ e. inl refl)

module _ {P : Type 0} {edition : Edition} {level : Level} {s : List ℕ} {us : List (Rule P)} (h : ReadAs edition level s us) (n r b : ℕ) where
  -- with enough room it is read, and has its own counts
  pub room_enough : counts us ≤ n → length us ≤ r → length (rules_stored us) ≤ b → read_of edition level s n r b ≡ Ok (counts us, length us, length (rules_stored us))
  unfolding room_by
  room_enough x y z = h.answer n r b ∙ rw (le-leb (length us) r y, le-leb (counts us) n x, le-leb (length (rules_stored us)) b z)

  -- with too little it is refused by 12, 10 or 11 and by nothing else
  pub only_room : (x : Refusal) → read_of edition level s n r b ≡ Err x → OfRoom x.why
  only_room x e = rw (sym (h.answer n r b) ∙ e) at (by_room (length us) (counts us) (length (rules_stored us)) n r b)

  pub never_13 : (x : Refusal) → read_of edition level s n r b ≡ Err x → x.why ≡ NotPlain → ⊥
  never_13 x e w = ⊎_elim
      (λ u. let z : ◌≡◌ {A = ℕ} 0 1 = cc in omega arith)
      (⊎_elim (λ u. let z : ◌≡◌ {A = ℕ} 0 1 = cc in omega arith) (λ u. let z : ◌≡◌ {A = ℕ} 0 1 = cc in omega arith))
      (only_room x e)
