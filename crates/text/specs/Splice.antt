-- Writing into a lent buffer, and measuring its room before that.
use Rattle.std.specs.Prelude.{ℕ, ◌+◌, ◌-◌, ◌≤◌, ◌≡◌, List, ◌++◌, length, drop}
use Rattle.std.proofs.lemmas.List.Edits.{sets}

-- there is room for x at an index
pub record Room (o : List ℕ) (at : ℕ) (x : List ℕ) : Type 0 where
  pub fits : at + length x ≤ length o

-- x was stored from an index on and nothing else was, and the next index is past it
pub record Wrote (o : List ℕ) (at : ℕ) (x o' : List ℕ) (r : ℕ) : Type 0 where
  pub now : o' ≡ sets o at x
  pub next : r ≡ at + length x

-- room is one more than the bytes that still fit, and 0 once they are exceeded: it is spent, and nothing is ever added
unfoldable pub spent : ℕ → List ℕ → ℕ
spent left x = left - length x

-- a lent buffer with x at its front and the rest as it was
unfoldable pub fronted : List ℕ → List ℕ → List ℕ
fronted x o = x ++ drop (length x) o
