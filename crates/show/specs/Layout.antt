-- A layout as the program for camera lines takes it: its tables, and the rule of a name.
use Rattle.std.specs.Prelude.{ℕ, List, eqb, length, Result, Ok, Err}
use Rattle.text.specs.Booleans.{choose}
use Rattle.table.specs.Tree.{rules_stored}
use Rattle.table.specs.Flat.{nodes_of, records_of}
use Rattle.structure.specs.declared.Edition.TheVariants.{First}
use Rattle.structure.specs.declared.Level.TheVariants.{Tagged}
use Rattle.reader.specs.Read as Read
use Rattle.reader.specs.Lines.{line_in}
use Rattle.build.specs.Rules as Built
use Rattle.replies.specs.declared.Answer.TheVariants as Answer
use Rattle.replies.specs.declared.Row.{Row}
use Rattle.replies.specs.declared.FindError.{FindError}
use Rattle.replies.specs.Replies.{numbered}
use Rattle.matcher.specs.Sought.{found_of}
use Rattle.show.specs.declared.Layout.{Layout}
use Rattle.show.specs.declared.Layout.TheVariants.{Tables, Refused, NoRule}

unfoldable pub refused_layout : Row → Layout
refused_layout r = Refused r.number r.place

-- tables of these lengths and the rule's index
unfoldable pub layout_by : ℕ → ℕ → ℕ → Result ℕ FindError → Layout
layout_by n r b (Ok k) = Tables n r b k
layout_by n r b (Err FindError.FalseTables) = refused_layout (numbered Answer.FalseTables)
layout_by n r b (Err FindError.NoRule) = NoRule

-- tables, and the lowest rule of the name
unfoldable pub layout_in : List ℕ → List ℕ → List ℕ → List ℕ → Layout
layout_in ns rs st name = layout_by (length ns) (length rs) (length st) (found_of ns rs st name)

-- the reading at the tagged level, with room for n nodes, r rules and b store bytes; then the lowest rule of the name
unfoldable pub layout_of : List ℕ → List ℕ → ℕ → ℕ → ℕ → Layout
layout_of s name n r b =
    choose (eqb (Read.reported First Tagged s n r b).number 0)
    (λ u. layout_in (nodes_of (line_in s) (Built.rules_read Tagged s)) (records_of (Built.rules_read Tagged s)) (rules_stored (Built.rules_read Tagged s)) name)
    (λ u. Refused (Read.reported First Tagged s n r b).number (Read.reported First Tagged s n r b).place)
