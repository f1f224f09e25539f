-- What was put lies in the output, and the pieces left to put are those of the turns left (`PiecesInv`).
use lib.ListN.{length}
use mathlib.Core.Path.{◌≡◌}
use Prim.Native.Nat.{◌≤◌}
use Rattle.vectors.proofs.Buffers.{PiecesInv}
use Rattle.vectors.proofs.pieces.Given as goal

abbrev pub invariant-loop-turn : goal.invariant-loop-turn
invariant-loop-turn l = (l.k ≤ length l.out) × (length l.piece ≡ 4096) × PiecesInv l.line l.fields l.initial.out l.out l.k l.turn
