-- What is shown: bytes at the front of a lent output.
use Rattle.std.specs.Prelude.{ℕ, ◌≤◌, Option, Some, None}
use Rattle.show.specs.declared.Shown.{Shown}
use Rattle.show.specs.declared.Shown.TheVariants.{Text, Refused, NoRoom}

-- what is shown lies in an output of k bytes
abbrev pub Fits : Shown → ℕ → Type 0
Fits (Text n) k = n ≤ k
Fits (Refused n) k = n ≤ k
Fits NoRoom k = Unit {0}

-- a refusal's line, written or not
unfoldable pub refused_by : Option ℕ → Shown
refused_by (Some n) = Refused n
refused_by None = NoRoom
