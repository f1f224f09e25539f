-- How many brackets a text has, and how many a tree needs.
use Rattle.std.specs.Prelude.{ℕ, zero, suc, ◌+◌, List, [], ◌∷◌, length}
use Rattle.token.specs.Table.{toks, is}
use Rattle.table.specs.Tree.{Tree, Rule}
use Rattle.forms.specs.declared.Place.{Place}
use Rattle.forms.specs.declared.Place.TheVariants.{Alone}
use Rattle.promises.specs.Open.{one?}
use Rattle.forms.specs.declared.Style.TheVariants.{Short}
use Rattle.promises.specs.Styled.{marked}
use Rattle.promises.specs.Marked.{opens}

-- the `(` among the first n tokens of a text, and among all
unfoldable pub opens_to : List ℕ → ℕ → ℕ
opens_to s zero = 0
opens_to s (suc n) = opens_to s n + one? (is s n 6)

abbrev pub opens_in : List ℕ → ℕ
opens_in s = opens_to s (length (toks s))

-- those that the short text of a tree has, at a place, and those of rules
abbrev pub need : {P : Type 0} → Place → Tree P → ℕ
need w t = opens (marked Short w t)

unfoldable pub needs : {P : Type 0} → List (Rule P) → ℕ
needs [] = 0
needs (r ∷ rs) = need Alone r.tree + needs rs
