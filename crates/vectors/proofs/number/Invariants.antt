-- v is below 10 ^ 19 + 10, and with the rest of the text behind it the number. A turn begins below 10 ^ 18 and adds a digit
-- of at most 15, so that v fits 64 bits.
use Prim.Native.Nat.{◌<◌}
use mathlib.Core.Path.{◌≡◌}
use lib.ListN.{drop}
use Rattle.vectors.specs.Vectors.{number_from}
use Rattle.vectors.proofs.number.Given as goal

abbrev pub invariant-loop-b : goal.invariant-loop-b
invariant-loop-b l = (l.v < 10000000000000000010) × (number_from 0 l.s ≡ number_from l.v (drop l.b-index l.s))
