-- What was put: bytes at the front of a lent output.
use Rattle.std.specs.Prelude.{ℕ, ◌≤◌, Option, Some, None}

-- what was put lies in an output of k bytes
abbrev pub PutFits : Option ℕ → ℕ → Type 0
PutFits (Some n) k = n ≤ k
PutFits None k = Unit {0}
