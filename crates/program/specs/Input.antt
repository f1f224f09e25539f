-- What was read.
use Rattle.std.specs.Prelude.{ℕ, ◌≤◌}
use Rattle.program.specs.declared.Input.{Input}
use Rattle.program.specs.declared.Input.TheVariants.{Bytes, Failed}

-- what was read lies in a buffer of k bytes
abbrev pub Within : Input → ℕ → Type 0
Within (Bytes n) k = n ≤ k
Within Failed k = Unit {0}
