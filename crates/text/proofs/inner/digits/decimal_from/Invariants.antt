-- The invariant: the bytes that are left, after digits that are worth v, answer as all of them do.
-- Over the limit v stays as it is: more digits don't change that answer (`from_step`).
use mathlib.Core.Path.{◌≡◌}
use lib.ListN.{drop}
use Rattle.text.specs.Digits.{decimal_from}
use Rattle.text.proofs.inner.digits.decimal_from.Given as goal

abbrev pub invariant-loop-b : goal.invariant-loop-b
invariant-loop-b l = decimal_from l.limit l.v (drop l.b-index l.s) ≡ decimal_from l.limit 0 l.s
