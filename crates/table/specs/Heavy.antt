-- What is known of a store once, where its parts are long, and what the check says of a node without that.
use Rattle.std.specs.Prelude.{ℕ, ◌+◌, ◌*◌, ◌≤◌, Bool, List, ltb, eqb, length, get_or, Option, None}
use Rattle.text.specs.Booleans.{choose, or}
use Rattle.text.specs.Limits.{max_store}
use Rattle.known.specs.Runs.{Runs}
use Rattle.known.specs.Stops.{Stops}
use Rattle.table.specs.Record.{node_size}
use Rattle.table.specs.Check.{verdict}

-- a table of where words stop, and one of where characters do
pub record Known (st rs ks : List ℕ) : Type 0 where
  pub short : length st ≤ max_store
  pub runs : Runs st rs
  pub stops : Stops st ks

-- the most bytes of a text that is gone over for each node that names it
abbrev pub long : ℕ
long = 64

-- the bytes of a node's text by its kind: q of strings and names, r of tags
unfoldable pub text_length : ℕ → ℕ → ℕ → ℕ
text_length k q r =
    choose (or (eqb k 1) (or (eqb k 2) (or (eqb k 4) (eqb k 18)))) (λ u. q) (λ u. choose (eqb k 19) (λ u. r) (λ u. 0))

-- a node's p + q is below the limit of its kind
abbrev pub flat_at : List ℕ → List ℕ → ℕ → Bool
flat_at ns ls i = ltb (get_or ns (node_size * i + 3) 0 + get_or ns (node_size * i + 4) 0) (get_or ls (get_or ns (node_size * i) 0) 0)

-- a node's text is long
abbrev pub long_at : List ℕ → ℕ → Bool
long_at ns i = ltb long (text_length (get_or ns (node_size * i) 0) (get_or ns (node_size * i + 4) 0) (get_or ns (node_size * i + 5) 0))

-- a node's first node, unless the node is false or has a long text that its limit doesn't tell
unfoldable pub lightly : List ℕ → List ℕ → List ℕ → ℕ → Option ℕ
lightly ns st ls i =
    choose (flat_at ns ls i) (λ u. verdict ns st i) (λ u. choose (long_at ns i) (λ u. None) (λ u. verdict ns st i))
