-- There are at most 65,537 answers for each block, as `run_block` promises, so that their sum fits.
use Prim.Native.Nat.{◌≤◌, ◌*◌}
use Rattle.replay.proofs.main.Given as goal

abbrev pub invariant-loop-block : goal.invariant-loop-block
invariant-loop-block l = l.answers ≤ 65537 * l._block
