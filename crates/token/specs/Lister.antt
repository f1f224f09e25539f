-- What a call of the lister gives.
use Rattle.std.specs.Prelude.{ℕ, List, ltb, length, Option, Some, None}
use Rattle.text.specs.Booleans.{choose}
use Rattle.text.specs.Utf8.{first_bad}
use Rattle.text.specs.Limits.{max_text}
use Rattle.token.specs.Tokens.{token_at}
use Rattle.token.specs.declared.Token.{Token}
use Rattle.token.specs.declared.Listed.{Listed}
use Rattle.token.specs.declared.Listed.TheVariants.{TooLong, NotUtf8, Next, End, NoToken}

-- by the token at the place, in a text of n bytes
abbrev pub listed_by : ℕ → Token → Listed
listed_by n (Token.Found kind start end) = Next kind start end
listed_by n Token.End = End n
listed_by n (Token.NoToken place) = NoToken place

-- by the start of the first bad sequence, if there is one
abbrev pub checked_by : Option ℕ → (Unit {0} → Listed) → Listed
checked_by (Some place) f = NotUtf8 place
checked_by None f = f tt

-- over 65,536 bytes; not UTF-8; else the next token past blanks, or the text's end, or no token
unfoldable pub next_of : List ℕ → ℕ → Listed
next_of s at = choose (ltb max_text (length s)) (λ u. TooLong) (λ u. checked_by (first_bad s) (λ u. listed_by (length s) (token_at s at)))

-- the numbers that a caller sees: a refusal's number (0: none) and place; kind, start and end; and the lister's place after the call
pub record Numbers : Type 0 where
  pub number : ℕ
  pub place : ℕ
  pub kind : ℕ
  pub start : ℕ
  pub end : ℕ
  pub next : ℕ

-- a refusal, after which the lister's place stays
abbrev pub refused : ℕ → ℕ → ℕ → Numbers
refused at number place = record { number = number; place = place; kind = 0; start = 0; end = 0; next = at }

-- each case in those numbers
abbrev pub numbers_of : ℕ → Listed → Numbers
numbers_of at TooLong = refused at 1 0
numbers_of at (NotUtf8 place) = refused at 2 place
numbers_of at (Next kind start end) = record { number = 0; place = 0; kind = kind; start = start; end = end; next = end }
numbers_of at (End n) = record { number = 0; place = 0; kind = 0; start = n; end = n; next = at }
numbers_of at (NoToken place) = refused at 3 place

-- what a call at a place gives, in numbers
unfoldable pub lister : List ℕ → ℕ → Numbers
lister s at = numbers_of at (next_of s at)
