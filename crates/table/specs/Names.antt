-- Names: which rule a name means.
use Rattle.std.specs.Prelude.{ℕ, Bool, not, List, ◌+◌, ◌≤◌, ◌<◌, eqb, length, Option, Some, None}
use Rattle.text.specs.Booleans.{and}
use Rattle.text.specs.Words.{begins}
use Rattle.table.specs.Record.{rules_in, name_offset, name_length, name_at}
use Rattle.table.specs.Check.{lowest}

-- two texts are of one length, and the one stands at the front of the other
unfoldable pub same_text : List ℕ → List ℕ → Bool
same_text xs ys = and (eqb (length xs) (length ys)) (begins xs ys)

-- the rule at an index has another name
unfoldable pub other_name : List ℕ → List ℕ → List ℕ → ℕ → Bool
other_name rs st b k = not (same_text (name_at rs st k) b)

abbrev pub named_by : Option ℕ → Option ℕ
named_by None = None
named_by (Some k) = Some k

-- the lowest rule of a name
unfoldable pub rule_named : List ℕ → List ℕ → List ℕ → Option ℕ
rule_named rs st b = named_by (lowest (other_name rs st b) (rules_in rs))

-- the names of all rules lie inside the store
pub record NamesInside (rs st : List ℕ) : Type 0 where
  pub in_store : (k : ℕ) → k < rules_in rs → name_offset rs k + name_length rs k ≤ length st
