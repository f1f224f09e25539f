-- n is how many of those that were passed stand at the value.
use mathlib.Core.Path.{◌≡◌}
use lib.ListN.{take}
use Rattle.std.specs.List.{count_by}
use Rattle.vectors.proofs.alone.Given as goal

abbrev pub invariant-loop-x : goal.invariant-loop-x
invariant-loop-x g l = l.n ≡ count_by (λ x. g.T.PartialEq.eq x l.v) (take l.x-index l.x-items)
