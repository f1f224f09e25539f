-- What is asked of tables before any line: 30, 31, 32.
use Rattle.std.specs.Prelude.{List, ℕ, Option, Some, None, Result, Ok, Err}
use Rattle.table.specs.declared.TableError.{TableError}
use Rattle.table.specs.Characters.{choose}
use Rattle.table.specs.Record.{nodes_in}
use Rattle.table.specs.Check.{tables, lowest}
use Rattle.replies.specs.declared.RunError.{RunError}
use Rattle.links.specs.Program.{fit_at, named}

-- 32, once the tables are good and fit
unfoldable pub ready_names : List ℕ → List ℕ → List ℕ → ℕ → Result (Unit {0}) RunError
ready_names ns rs st start = choose (named ns rs st start) (λ u. Ok tt) (λ u. Err RunError.NoRule)

-- 31, the lowest node first
abbrev pub ready_nodes : Option ℕ → (Unit {0} → Result (Unit {0}) RunError) → Result (Unit {0}) RunError
ready_nodes (Some i) f = Err (RunError.Unfit i)
ready_nodes None f = f tt

-- 30: anything but good from the check of whole tables
abbrev pub ready_tables : Result (Unit {0}) TableError → (Unit {0} → Result (Unit {0}) RunError) → Result (Unit {0}) RunError
ready_tables (Ok _) f = f tt
ready_tables (Err TableError.Shape) f = Err RunError.FalseTables
ready_tables (Err (TableError.Node i)) f = Err RunError.FalseTables
ready_tables (Err (TableError.Rule k)) f = Err RunError.FalseTables

-- what is asked before any line: 30, 31, 32
unfoldable pub ready_of : List ℕ → List ℕ → List ℕ → ℕ → Result (Unit {0}) RunError
ready_of ns rs st start =
    ready_tables (tables ns rs st) (λ u. ready_nodes (lowest (fit_at ns) (nodes_in ns)) (λ u. ready_names ns rs st start))
