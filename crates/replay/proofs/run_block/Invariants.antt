-- The invariant: there are no more answers than `at`, and `at` is at most 1 behind the block's end, which bounds the result.
-- `find` gives no place before `at` and none behind the block: so each line lies in it, and what is left of it falls.
use lib.ListN.{length}
use Prim.Native.Nat.{◌≤◌, ◌-◌, ◌+◌}
use Rattle.replay.proofs.run_block.Given as goal

abbrev pub invariant-loop-at : goal.invariant-loop-at
invariant-loop-at l = (l.answers ≤ l.at) × (l.at ≤ 1 + length l.block)

abbrev pub decreases-loop-at : goal.decreases-loop-at
decreases-loop-at l = length l.block - l.at
