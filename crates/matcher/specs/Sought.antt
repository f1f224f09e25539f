-- The rule of a name, for callers that know rules by their names. 30 comes first, then 32.
use Rattle.std.specs.Prelude.{List, ℕ, Option, Some, None, Result, Ok, Err}
use Rattle.table.specs.declared.TableError.{TableError}
use Rattle.table.specs.Check.{tables}
use Rattle.table.specs.Names.{rule_named}
use Rattle.replies.specs.declared.FindError.{FindError}
use Rattle.replies.specs.declared.FindError.TheVariants.{FalseTables, NoRule}

abbrev pub found_by : Option ℕ → Result ℕ FindError
found_by (Some k) = Ok k
found_by None = Err NoRule

-- anything but good from the check of whole tables is 30
abbrev pub found_tables : Result (Unit {0}) TableError → (Unit {0} → Result ℕ FindError) → Result ℕ FindError
found_tables (Ok _) f = f tt
found_tables (Err TableError.Shape) f = Err FalseTables
found_tables (Err (TableError.Node i)) f = Err FalseTables
found_tables (Err (TableError.Rule k)) f = Err FalseTables

-- the lowest rule of a name, for all tables and names
unfoldable pub found_of : List ℕ → List ℕ → List ℕ → List ℕ → Result ℕ FindError
found_of ns rs st name = found_tables (tables ns rs st) (λ u. found_by (rule_named rs st name))
