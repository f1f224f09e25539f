-- The bytes left to put behind the first k are those of the text from 2 k on (`UnhexInv`).
use Rattle.vectors.proofs.Buffers.{UnhexInv}
use Rattle.vectors.proofs.unhex.Given as goal

abbrev pub invariant-loop-k : goal.invariant-loop-k
invariant-loop-k l = UnhexInv l.s l.initial.out l.out l.k
