-- All tokens of a text, or those before its first 3.
use Rattle.std.specs.Prelude.{ℕ, zero, suc, ◌-◌, List, [], ◌∷◌, ◌++◌, leb, length, Option, Some, None, Result, Ok, Err}
use Rattle.text.specs.Booleans.{choose}
use Rattle.token.specs.Tokens.{token_at}
use Rattle.token.specs.declared.Token.{Token}
use Rattle.token.specs.declared.Token.TheVariants.{Found, End, NoToken}
use Rattle.token.specs.declared.FillError.{FillError}

-- a token: kind, start, end
pub data Tok : Type 0 where
  tok : ℕ → ℕ → ℕ → Tok

-- its parts
abbrev pub kind_of : Tok → ℕ
kind_of (tok kind start end) = kind

abbrev pub start_of : Tok → ℕ
start_of (tok kind start end) = start

abbrev pub end_of : Tok → ℕ
end_of (tok kind start end) = end

-- tokens in order, and whether they go up to the text's end or to a place where there is none
pub record Tokens : Type 0 where
  pub list : List Tok
  pub fault : Option ℕ

-- with some tokens before
abbrev pub onto : List Tok → Tokens → Tokens
onto ts r = record { list = ts ++ r.list; fault = r.fault }

-- by what stands at a place. go: the tokens from this one's end on
abbrev pub tokens_by : Token → (ℕ → Tokens) → Tokens
tokens_by End go = record { list = []; fault = None }
tokens_by (NoToken place) go = record { list = []; fault = Some place }
tokens_by (Found kind start end) go = onto (tok kind start end ∷ []) (go end)

-- the first argument bounds how many: as many as bytes are left are enough, since no token is empty (`tokens_enough`, proofs/Lists)
unfoldable pub tokens_in : ℕ → List ℕ → ℕ → Tokens
tokens_in zero s at = record { list = []; fault = None }
tokens_in (suc k) s at = tokens_by (token_at s at) (λ end. tokens_in k s end)

-- the tokens from a place on, each looked for at the end of the one before it. They meet an equation without a bound, `tokens_law`, and
-- nothing else does (`tokens_only`)
unfoldable pub tokens_from : List ℕ → ℕ → Tokens
tokens_from s at = tokens_in (suc (length s - at)) s at

-- the tokens of a text
unfoldable pub tokens_of : List ℕ → Tokens
tokens_of s = tokens_from s 0

-- where the token of an index is looked for: at the end of that before it, the first at a place
abbrev pub place_from : ℕ → List Tok → ℕ → ℕ
place_from at ts zero = at
place_from at [] (suc i) = at
place_from at (t ∷ ts) (suc i) = place_from (end_of t) ts i

-- and where what follows the last one is
abbrev pub past_last : List ℕ → ℕ
past_last s = place_from 0 (tokens_of s).list (length (tokens_of s).list)

-- what filling the lent table answers
abbrev pub filled_by : ℕ → Option ℕ → Result ℕ FillError
filled_by n None = Ok n
filled_by n (Some place) = Err (FillError.NoToken place)

-- a table with room for m; all tokens before the first 3 have to fit
unfoldable pub filled_of : ℕ → List ℕ → Result ℕ FillError
filled_of m s = choose (leb (length (tokens_of s).list) m) (λ u. filled_by (length (tokens_of s).list) (tokens_of s).fault) (λ u. Err FillError.Full)
