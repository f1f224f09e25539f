-- Tokens as lines: `KIND START END`.
use Rattle.std.specs.Prelude.{ℕ, zero, suc, ◌*◌, ◌/◌, List, [], ◌∷◌, ◌++◌, leb, length, drop, get_or, Option, Some, None}
use Rattle.text.specs.Booleans.{choose}
use Rattle.text.specs.Digits.{decimal}
use Rattle.text.specs.Splice.{fronted}

-- the three in decimal, blanks between them, and LF
unfoldable pub token_line : ℕ → ℕ → ℕ → List ℕ
token_line k a b = decimal k ++ ((32 ∷ []) ++ (decimal a ++ ((32 ∷ []) ++ (decimal b ++ (10 ∷ [])))))

-- a record has three numbers
abbrev pub token_size : ℕ
token_size = 3

-- the line of a list's first record
unfoldable pub record_line : List ℕ → List ℕ
record_line ts = token_line (get_or ts 0 0) (get_or ts 1 0) (get_or ts 2 0)

-- the lines of the first k
unfoldable pub token_lines : ℕ → List ℕ → List ℕ
token_lines zero ts = []
token_lines (suc k) ts = record_line ts ++ token_lines k (drop token_size ts)

-- the lines of all whole records
abbrev pub list_lines : List ℕ → List ℕ
list_lines ts = token_lines (length ts / token_size) ts

-- the bytes that a line has at most: three times ten digits, two blanks and LF
abbrev pub longest_token : ℕ
longest_token = 33

-- what writing them to the front of an output of m bytes answers
unfoldable pub tokens_put : List ℕ → ℕ → Option ℕ
tokens_put ts m = choose (leb (longest_token * (length ts / token_size)) m) (λ u. Some (length (list_lines ts))) (λ u. None)

-- and what it leaves there
unfoldable pub tokens_in : List ℕ → List ℕ → Option ℕ → List ℕ
tokens_in ts o (Some k) = fronted (list_lines ts) o
tokens_in ts o None = o
