-- What the building of rules asks of the lent buffers, and what it leaves in them.
use Rattle.std.specs.Prelude.{ℕ, ◌+◌, ◌*◌, ◌≤◌, ◌≡◌, List, [], length}
use Rattle.std.proofs.lemmas.List.Edits.{sets}
use Rattle.text.specs.Splice.{fronted}
use Rattle.table.specs.Tree.{Span, Rule, below, count, counts, rule_stored, rules_stored}
use Rattle.table.specs.Record.{node_size, rule_size}
use Rattle.table.specs.Flat.{no_line, flat, rule_record, nodes_of, records_of}
use Rattle.structure.specs.Structure.{Ruling, ruling, Ruled, grammar}
use Rattle.structure.specs.Structure as Structure
use Rattle.structure.specs.declared.Level.{Level}
use Rattle.build.specs.declared.RuleEnd.{RuleEnd}
use Rattle.records.specs.Records.{written, rule_written, most}

abbrev pub ruled_of : Ruled → List (Rule Span)
ruled_of (Structure.rules us) = us
ruled_of (Structure.unruled r) = []

-- the rules of a text that is read
abbrev pub rules_read : Level → List ℕ → List (Rule Span)
rules_read level s = ruled_of (grammar level s)

-- m is a rule: its record has room at an index, its nodes from the index `used` on, its texts from `free` on
pub record RuleRoom (m : Ruling) (nodes rules store : List ℕ) (index used free : ℕ) : Type 0 where
  pub rule : Rule Span
  pub end : ℕ
  pub read : m ≡ ruling rule end
  pub place : rule_size * index + rule_size ≤ length rules
  pub room : node_size * (used + count rule.tree) ≤ length nodes
  pub few : used + count rule.tree ≤ most
  pub fits : free + length (rule_stored rule) ≤ length store
  pub low : free + length (rule_stored rule) ≤ most

-- the buffers have m's rule; r has the token, the node record and the store byte after it
pub record RuleBuilt (m : Ruling) (nodes rules store : List ℕ) (index used free : ℕ) (r : RuleEnd) (nodes' rules' store' : List ℕ) : Type 0 where
  pub rule : Rule Span
  pub read : m ≡ ruling rule r.next
  pub used_is : r.used ≡ used + count rule.tree
  pub free_is : r.free ≡ free + length (rule_stored rule)
  pub table : nodes' ≡ written nodes used (flat no_line used (free + length rule.name) rule.tree)
  pub row : rules' ≡ rule_written rules index (rule_record free (used + below rule.tree) rule)
  pub texts : store' ≡ sets store free (rule_stored rule)

-- m is rules, and there is room for their records and texts
pub record GrammarRoom (m : Ruled) (us : List (Rule Span)) (nodes rules store : List ℕ) : Type 0 where
  pub read : m ≡ Structure.rules us
  pub rows : rule_size * length us ≤ length rules
  pub room : node_size * counts us ≤ length nodes
  pub few : counts us ≤ most
  pub fits : length (rules_stored us) ≤ length store
  pub low : length (rules_stored us) ≤ most

-- the buffers have rules at their fronts, and nothing else is new
pub record RulesBuilt (us : List (Rule Span)) (nodes rules store nodes' rules' store' : List ℕ) : Type 0 where
  pub nodes_is : nodes' ≡ fronted (nodes_of no_line us) nodes
  pub rules_is : rules' ≡ fronted (records_of us) rules
  pub store_is : store' ≡ fronted (rules_stored us) store
