-- The line of a place in a text, and tables whose node records have the lines of their starts.
use Rattle.std.specs.Prelude.{ℕ, zero, suc, ◌+◌, ◌*◌, ◌<◌, ◌≡◌, List, [], ◌∷◌, leb, eqb, get_or, set, take}
use Rattle.text.specs.Booleans.{choose}
use Rattle.table.specs.Record.{node_size}

-- 1 for LF, 0 for any other byte
abbrev pub feed : ℕ → ℕ
feed b = choose (eqb b 10) (λ u. 1) (λ u. 0)

-- the LF bytes of a text
unfoldable pub feeds : List ℕ → ℕ
feeds [] = 0
feeds (b ∷ s) = feed b + feeds s

-- the line of a place: one plus the LF bytes before it
unfoldable pub line_in : List ℕ → ℕ → ℕ
line_in s a = 1 + feeds (take a s)

-- a table in which one record has the line of its start
abbrev pub with_line : (ℕ → ℕ) → List ℕ → ℕ → List ℕ
with_line line ns k = set ns (node_size * k + 6) (line (get_or ns (node_size * k + 1) 0))

-- and one in which the first n records have theirs
unfoldable pub with_lines : (ℕ → ℕ) → List ℕ → ℕ → List ℕ
with_lines line ns zero = ns
with_lines line ns (suc n) = with_line line (with_lines line ns n) n

-- the first n records have the lines of their starts
pub record Lined (line : ℕ → ℕ) (ns : List ℕ) (n : ℕ) : Type 0 where
  pub lines : (k : ℕ) → k < n → get_or ns (node_size * k + 6) 0 ≡ line (get_or ns (node_size * k + 1) 0)

-- a node's first child is its fourth number, unless it is a leaf: kinds 1 to 5, and 18
abbrev pub first_child : List ℕ → ℕ → ℕ
first_child ns i =
    choose (leb (get_or ns (node_size * i) 0) 5) (λ u. i)
    (λ u. choose (eqb (get_or ns (node_size * i) 0) 18) (λ u. i) (λ u. get_or ns (node_size * i + 3) 0))
