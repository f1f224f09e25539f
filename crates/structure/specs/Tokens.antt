-- What is asked of a text's tokens: where they lie, and which words they spell.
use Rattle.std.specs.Prelude.{Bool, List, [], ◌∷◌, ℕ, eqb, length}
use Rattle.text.specs.Booleans.{and}
use Rattle.text.specs.Words.{begins}
use Rattle.token.specs.Table.{start, end, is, word}
use Rattle.table.specs.Tree.{Span}

-- from the first byte of one token to past the last byte of another
abbrev pub across : List ℕ → ℕ → ℕ → Span
across s i j = record { start = start s i; stop = end s j }

-- the same bytes
abbrev pub same : List ℕ → List ℕ → Bool
same p xs = and (eqb (length xs) (length p)) (begins p xs)

-- the token is the word spelled so
unfoldable pub spells : List ℕ → List ℕ → ℕ → Bool
spells p s i = and (is s i 18) (same p (word s i))

-- PEEK
abbrev pub peek : List ℕ
peek = 80 ∷ 69 ∷ 69 ∷ 75 ∷ []
