-- A token is answered only behind the three tests.
use native.Mathlib.Omega.{arith}
use mathlib.Core.Path.{sym, ◌∙◌}
use Rattle.stream.proofs.passes.quick.ahead.Goals as goal

pub returns-else-packet-end-ge128 : goal.returns-else-packet-end-ge128
returns-else-packet-end-ge128 c = rw c.from.ensures (record { found = sym c.token_at.ensures ∙ c.in-Found.is; inside = omega arith; ascii = omega arith })
