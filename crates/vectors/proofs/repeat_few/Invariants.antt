-- k is at most the output's length. Between turns what is left to do is the piece as often as there are turns left (`RepeatInv`); within one it
-- is the rest of the piece first (`FewInv`).
use Prim.Native.Nat.{◌≤◌}
use lib.ListN.{length}
use Rattle.vectors.proofs.Buffers.{RepeatInv, FewInv}
use Rattle.vectors.proofs.repeat_few.Given as goal

abbrev pub invariant-loop-turn : goal.invariant-loop-turn
invariant-loop-turn l = (l.k ≤ length l.out) × RepeatInv l.times l.piece l.initial.out l.from l.out l.k l._turn

abbrev pub invariant-loop-b : goal.invariant-loop-b
invariant-loop-b l = (l.k ≤ length l.out) × FewInv l.times l.piece l.fn.out l.from l.out l.k l._turn l.b-index
