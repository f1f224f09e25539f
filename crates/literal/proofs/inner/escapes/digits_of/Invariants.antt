-- The loop keeps: reading on, after as many digits as were read, gives what reading all gives; and the value is below 16 to their number.
-- A digit is read only after fewer than six, so that the value has room for it (`pow_room`).
use Prim.Native.Nat.{◌^◌, ◌<◌}
use mathlib.Core.Path.{◌≡◌}
use lib.ListN.{drop}
use Rattle.literal.specs.Escapes.{digits_of}
use Rattle.literal.proofs.inner.escapes.digits_of.Given as goal

abbrev pub invariant-loop-b : goal.invariant-loop-b
invariant-loop-b l = (digits_of l.m l.digits.value l.digits.count (drop l.b-index l.s) ≡ digits_of l.m 0 0 l.s) × (l.digits.value < 16 ^ l.digits.count) × (l.digits.count ≡ l.b-index)
