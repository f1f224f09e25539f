-- Long packets: tokens that are found as in a whole text.
use Rattle.std.specs.Prelude.{ℕ, suc, ◌+◌, ◌*◌, ◌≤◌, ◌<◌, ◌≡◌, Bool, List, eqb, length, drop, get_or, Option, Some, None}
use Rattle.std.proofs.lemmas.List.Edits.{sets}
use Rattle.text.specs.Booleans.{and}
use Rattle.text.specs.Limits.{max_text}
use Rattle.token.specs.Tokens.{token_at}
use Rattle.token.specs.Lists.{Tok}
use Rattle.token.specs.declared.Token.TheVariants.{Found}
use Rattle.token.specs.Table.{flat, room_of}
use Rattle.states.specs.declared.Stand.{Stand}
use Rattle.states.specs.declared.State.TheVariants.{Start}
use Rattle.states.specs.declared.Utf.TheVariants.{Whole}
use Rattle.states.specs.Keep.{code_of, utf_code}
use Rattle.states.specs.Utf.{broken_at, utf_feed}
use Rattle.states.specs.Steps.{given, ran_of}
use Rattle.stream.specs.Shapes.{Coherent}

-- between tokens and between characters, at a place, with so many records
abbrev pub start_at : ℕ → ℕ → Stand
start_at p n = record { conf = record { state = Start; start = p; size = 0 }; utf = Whole; seen = p; count = n }

unfoldable pub is_between : Stand → Bool
is_between c = and (eqb (code_of c.conf.state) 0) (eqb (utf_code c.utf) 0)

-- the stream stands so, and no byte of what is left is refused by 1 or 2
pub record Free (c : Stand) (xs : List ℕ) : Type 0 where
  pub between : c ≡ start_at c.seen c.count
  pub short : c.seen + length xs ≤ max_text
  pub clean : broken_at (utf_feed Whole c.seen xs) ≡ None

-- a token of a packet with its end: the byte behind it is there, in ASCII, and one more
pub record Holds (xs : List ℕ) (at k s e : ℕ) : Type 0 where
  pub found : token_at xs at ≡ Found k s e
  pub inside : suc e < length xs
  pub ascii : get_or xs e 0 < 128

abbrev pub HoldsIf : List ℕ → ℕ → Option (ℕ × ℕ × ℕ) → Type 0
HoldsIf xs at None = Unit {0}
HoldsIf xs at (Some (k, s, e)) = Holds xs at k s e

-- from c at i to d at j: the tokens on the way stand in a list behind n records
pub record Leapt (room : ℕ) (c : Stand) (i n : ℕ) (xs before after : List ℕ) (d : Stand) (j : ℕ) : Type 0 where
  pub tokens : List Tok
  pub ran : ran_of room c (drop i xs) ≡ given tokens (ran_of room d (drop j xs))
  pub stored : after ≡ sets before (n * 3) (flat tokens)
  pub counted : d.count ≡ c.count + length tokens
  pub roomy : 0 < length tokens → d.count ≤ room
  pub fits : n + length tokens ≤ room_of before
  pub within : j ≤ length xs
  pub sound : Coherent d
