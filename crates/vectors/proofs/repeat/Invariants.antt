-- k is at most the output's length, and what is left to do is the piece as often as there are turns left (`RepeatInv`).
use Prim.Native.Nat.{◌≤◌}
use lib.ListN.{length}
use Rattle.vectors.proofs.Buffers.{RepeatInv}
use Rattle.vectors.proofs.repeat.Given as goal

abbrev pub invariant-loop-turn : goal.invariant-loop-turn
invariant-loop-turn l = (l.k ≤ length l.out) × RepeatInv l.times l.piece l.initial.out l.from l.out l.k l._turn
