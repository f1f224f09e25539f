-- How a style marks trees and rules: at each node, whether brackets stand around it.
use Rattle.std.specs.Prelude.{Bool, false, List, map}
use Rattle.table.specs.Tree.{Tree, leaf, one, two, Rule}
use Rattle.forms.specs.declared.Style.{Style}
use Rattle.forms.specs.declared.Place.{Place}
use Rattle.forms.specs.declared.Place.TheVariants.{Alone, LeftOf, RightOf}
use Rattle.forms.specs.declared.Form.TheVariants.{Joined}
use Rattle.forms.specs.Printing.{brackets, atom_form, wrap_form, under}

unfoldable pub marked : {P : Type 0} → Style → Place → Tree P → Tree Bool
marked style w (leaf s a) = leaf (brackets style w (atom_form a)) a
marked style w (one s o t) = one (brackets style w (wrap_form o)) o (marked style (under (wrap_form o)) t)
marked style w (two s j a b) = two (brackets style w (Joined j)) j (marked style (LeftOf j) a) (marked style (RightOf j) b)

abbrev pub marked_rule : {P : Type 0} → Style → Rule P → Rule Bool
marked_rule style r = record { name = r.name; mark = r.mark; tree = marked style Alone r.tree; place = false }

abbrev pub marked_rules : {P : Type 0} → Style → List (Rule P) → List (Rule Bool)
marked_rules style us = map (marked_rule style) us
