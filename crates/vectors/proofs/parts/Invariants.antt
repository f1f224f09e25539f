-- The invariant: k is at most the output's length, which stays as it was, the piece has 1,024 bytes, and
-- the parts left to put are those from `at` on (`PartsInv`). `find` gives no place before the one
-- it starts at, and none behind the text: so both parts lie in the text, and what is left of it falls.
use Prim.Native.Nat.{◌≤◌, ◌-◌}
use mathlib.Core.Path.{◌≡◌}
use lib.ListN.{length}
use Rattle.vectors.proofs.Buffers.{PartsInv}
use Rattle.vectors.proofs.parts.Given as goal

abbrev pub invariant-loop-at : goal.invariant-loop-at
invariant-loop-at l = (l.k ≤ length l.out) × (length l.out ≡ length l.initial.out) × (length l.piece ≡ 1024) × PartsInv l.s l.initial.out l.at l.out l.k

abbrev pub decreases-loop-at : goal.decreases-loop-at
decreases-loop-at l = length l.s - l.at
