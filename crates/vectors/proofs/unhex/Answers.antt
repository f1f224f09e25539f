use native.Mathlib.Omega.{arith}
use Rattle.vectors.proofs.Buffers.{unhex_more, unhex_done}
use Rattle.vectors.proofs.unhex.Goals as goal

pub loop-k-preserved : goal.loop-k-preserved
loop-k-preserved c = unhex_more _ _ _ _ c.loop-k.invariant _ _ (omega arith) (omega arith) c.hex_value.ensures.1 c.hex_value-in-loop-k.ensures.1

pub returns-clause-left : goal.returns-clause-left
returns-clause-left c = unhex_done _ _ _ _ c.loop-k.invariant _ (omega arith) (omega arith)
