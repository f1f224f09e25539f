-- The invariant: after the first bytes, v with those that are left comes to what all come to; and v is below 256 * 64 ^ their number,
-- so that one byte more fits 32 bits (`gather_room`).
use Prim.Native.Nat.{◌-◌, ◌*◌, ◌^◌, ◌<◌}
use mathlib.Core.Path.{◌≡◌}
use lib.ListN.{drop}
use Rattle.text.specs.Utf8.{gathered}
use Rattle.text.proofs.inner.utf8.gather.Given as goal

abbrev pub invariant-loop-x : goal.invariant-loop-x
invariant-loop-x l = (gathered (l.more - l.x-index) l.v (drop l.x-index l.s) ≡ gathered l.more l.bits l.s) × (l.v < 256 * 64 ^ l.x-index)
