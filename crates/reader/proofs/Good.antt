-- What is read is good: the tables of a reading that succeeded pass the check, since its rules are fine and fit the limits.
use Rattle.std.specs.Prelude.{Ok}
use Prim.Native.Nat.{ℕ, ◌*◌, ◌≤◌}
use mathlib.Core.Path.{◌≡◌, sym, ap, ◌∙◌}
use mathlib.Core.Bool.{true}
use mathlib.Core.List.{List}
use native.Mathlib.Omega.{arith}
use lib.ListN.{length, take, drop}
use lib.Seq.{take_at}
use Rattle.text.specs.Limits.{max_nodes, max_rules}
use Rattle.text.specs.Splice.{fronted}
use Rattle.table.specs.Tree.{rules_stored}
use Rattle.table.specs.Record.{node_size, rule_size}
use Rattle.table.specs.Flat.{nodes_of, records_of}
use Rattle.table.specs.Check.{fine_rules, tables}
use Rattle.table.specs.declared.TableError.{TableError}
use Rattle.table.proofs.Rules.{length_nodes, length_records}
use Rattle.table.proofs.Tables.{flat_passes}
use Rattle.structure.specs.declared.Edition.{Edition}
use Rattle.structure.specs.declared.Level.{Level}
use Rattle.structure.proofs.Fine.{sound_fine}
use Rattle.structure.proofs.Stores.{stored_fits}
use Rattle.build.specs.Rules.{rules_read}
use Rattle.structure.specs.declared.Refusal.{Refusal}
use Rattle.reader.specs.Read.{room_for_nodes, room_for_rules, read_of, left_in, Leaves}
use Rattle.reader.specs.Lines.{line_in}
use Rattle.reader.proofs.Counts.{read_text, read_counts}

module _ (edition : Edition) (level : Level) (s : List ℕ) (n r b : ℕ) {x y z : ℕ} (e : read_of edition level s n r b ≡ Ok (x, y, z)) where
  -- the rules that are read are fine: names are names, strings UTF-8, characters Unicode scalars
  pub read_fine : fine_rules (rules_read level s) ≡ true
  read_fine =
      let c = read_counts edition level s n r b e in
      sound_fine edition level s (rules_read level s) (read_text edition level s n r b e).utf8 c.read c.sound

  -- their tables are good, with room within the limits; the store never has more bytes than the text
  pub read_good : n ≤ max_nodes → r ≤ max_rules → tables (nodes_of (line_in s) (rules_read level s)) (records_of (rules_read level s)) (rules_stored (rules_read level s)) ≡ Ok tt
  read_good h l =
      let c = read_counts edition level s n r b e in
      flat_passes (line_in s) (rules_read level s) read_fine (omega (arith, c.nodes_fit)) (omega (arith, c.rules_fit))
      (omega (arith, stored_fits s level (rules_read level s) c.read, (read_text edition level s n r b e).short))

-- and so is what a call leaves in the lent buffers, as far as it is used, whatever was lent
module _ (edition : Edition) (level : Level) (s ns rs st ns' rs' st' : List ℕ) {x y z : ℕ} (e : read_of edition level s (room_for_nodes ns) (room_for_rules rs) (length st) ≡ Ok (x, y, z)) (h : Leaves level s (Ok (x, y, z)) ns rs st ns' rs' st') where
  front : (t o o' : List ℕ) (k : ℕ) → o' ≡ left_in (Ok (x, y, z)) t o → k ≡ length t → take k o' ≡ t
  unfolding left_in fronted
  front t o o' k q l = ap (take k) q ∙ take_at t (drop (length t) o) k (sym l)

  pub used_good : tables (take (node_size * x) ns') (take (rule_size * y) rs') (take z st') ≡ Ok tt
  used_good =
      let us = rules_read level s in
      let c = read_counts edition level s (room_for_nodes ns) (room_for_rules rs) (length st) e in
      rw (front (nodes_of (line_in s) us) ns ns' (node_size * x) h.nodes (omega (arith, c.nodes_are, length_nodes (line_in s) 0 0 us)), front (records_of us) rs rs' (rule_size * y) h.rules (omega (arith, c.rules_are, length_records 0 0 us)), front (rules_stored us) st st' z h.store c.store_is)
      (read_good edition level s (room_for_nodes ns) (room_for_rules rs) (length st) e (omega arith) (omega arith))
