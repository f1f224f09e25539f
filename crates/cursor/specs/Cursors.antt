-- What calls of the lister give, and where its place is after them.
use Rattle.std.specs.Prelude.{ℕ, List}
use Rattle.token.specs.Lister.{next_of, lister}
use Rattle.cursor.specs.declared.Cursor.{Cursor}
use Rattle.cursor.specs.declared.Step.{Step}
use Rattle.cursor.specs.declared.Two.{Two}

-- a call at a place
unfoldable pub step_of : List ℕ → ℕ → Step
step_of s at = record { listed = next_of s at; place = (lister s at).next }

-- a call at a place, and one at the place after it
unfoldable pub two_of : List ℕ → ℕ → Two
two_of s at = record { first = next_of s at; second = next_of s (lister s at).next; place = (lister s (lister s at).next).next }

-- a cursor after a call: the same text, at the lister's place after that call
unfoldable pub moved : Cursor → Cursor
moved c = record { text = c.text; place = (lister c.text.now c.place).next }
