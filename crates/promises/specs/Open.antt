-- How many brackets of a text are open at once, by its tokens.
use Rattle.std.specs.Prelude.{ℕ, zero, suc, ◌+◌, ◌-◌, ◌≤◌, ◌<◌, max, ◌≡◌, Bool, true, false, List, length}
use Rattle.text.specs.Limits.{max_open}
use Rattle.token.specs.Table.{toks, start, is}
use Rattle.structure.specs.declared.Edition.{Edition}
use Rattle.structure.specs.declared.Level.{Level}
use Rattle.structure.specs.declared.Why.TheVariants.{TooDeep}
use Rattle.reader.specs.Read.{refused_by, read_of}

-- one for yes, none for no
abbrev pub one? : Bool → ℕ
one? true = 1
one? false = 0

-- how many are open behind the first n tokens: `(` opens one, and `)` closes one, if one is open
unfoldable pub open_at : List ℕ → ℕ → ℕ
open_at s zero = 0
open_at s (suc n) = open_at s n + one? (is s n 6) - one? (is s n 7)

-- the most that are open at once among the first n tokens, and among all
unfoldable pub most_to : List ℕ → ℕ → ℕ
most_to s zero = 0
most_to s (suc n) = max (most_to s n) (open_at s (suc n))

abbrev pub most_open : List ℕ → ℕ
most_open s = most_to s (length (toks s))

-- token j is the first `(` that makes more than n open
pub record FirstOver (s : List ℕ) (n j : ℕ) : Type 0 where
  pub opens : is s j 6 ≡ true
  pub full : open_at s j ≡ n
  pub before : most_to s j ≤ n

-- a text is refused as too deep exactly if more than the limit are open at once, whatever room is lent; at the first one too many
pub record Limited (edition : Edition) (level : Level) (s : List ℕ) : Type 0 where
  pub deep : max_open < most_open s → (n r b : ℕ) → (j : ℕ) × FirstOver s max_open j × (read_of edition level s n r b ≡ refused_by TooDeep (start s j))
  pub only : (n r b p : ℕ) → read_of edition level s n r b ≡ refused_by TooDeep p → max_open < most_open s
