-- The table of a text's tokens: a row of numbers for each. And a text's tokens by their index.
use Rattle.std.specs.Prelude.{ℕ, ◌+◌, ◌-◌, ◌/◌, ◌≤◌, ◌≡◌, Bool, List, [], ◌∷◌, ◌++◌, eqb, length, get_or, take, drop}
use Rattle.text.specs.Limits.{max_text}
use Rattle.token.specs.Lists.{Tok, tok, kind_of, start_of, end_of, tokens_of}

-- ---- rows

-- the numbers in a row
abbrev pub token_size : ℕ
token_size = 3

-- a token's row: kind, start, end
abbrev pub row_of : Tok → List ℕ
row_of t = kind_of t ∷ start_of t ∷ end_of t ∷ []

-- the rows of tokens, one behind the other
abbrev pub flat : List Tok → List ℕ
flat [] = []
flat (t ∷ ts) = row_of t ++ flat ts

-- how many rows a lent list has room for
abbrev pub room_of : List ℕ → ℕ
room_of o = length o / token_size

-- ---- tokens by their index

-- the tokens of a text
abbrev pub toks : List ℕ → List Tok
toks s = (tokens_of s).list

-- a lent table holds the tokens of a text of legal length, and nothing else
pub record Lent (s ts : List ℕ) : Type 0 where
  pub short : length s ≤ max_text
  pub table : ts ≡ flat (toks s)

-- the token with an index; past the last one, no token at the text's end
unfoldable pub tok_of : List ℕ → ℕ → Tok
tok_of s i = get_or (toks s) i (tok 0 (length s) (length s))

-- its parts
unfoldable pub kind : List ℕ → ℕ → ℕ
kind s i = kind_of (tok_of s i)

unfoldable pub start : List ℕ → ℕ → ℕ
start s i = start_of (tok_of s i)

unfoldable pub end : List ℕ → ℕ → ℕ
end s i = end_of (tok_of s i)

-- the token is of a kind
unfoldable pub is : List ℕ → ℕ → ℕ → Bool
is s i k = eqb (kind s i) k

-- the bytes of a text from a to z
unfoldable pub between : List ℕ → ℕ → ℕ → List ℕ
between s a z = take (z - a) (drop a s)

-- a token's bytes without the first k and the last n
abbrev pub trimmed : List ℕ → ℕ → ℕ → ℕ → List ℕ
trimmed s i k n = between s (start s i + k) (end s i - n)

-- a word's or a number's bytes; a tag's, without its `#`
unfoldable pub word : List ℕ → ℕ → List ℕ
word s i = trimmed s i 0 0

unfoldable pub label : List ℕ → ℕ → List ℕ
label s i = trimmed s i 1 0
