-- What was read lies in its buffer.
use Prim.Native.Nat.{ℕ, ◌≤◌}
use mathlib.Core.Path.{◌≡◌, subst}
use Rattle.program.specs.declared.Input.{Input}
use Rattle.program.specs.declared.Input.TheVariants.{Bytes}
use Rattle.program.specs.Input.{Within}

pub bytes_within : {x : Input} {n k : ℕ} → x ≡ Bytes n → Within x k → n ≤ k
bytes_within {k = k} e h = subst (λ (y : Input). Within y k) e h
