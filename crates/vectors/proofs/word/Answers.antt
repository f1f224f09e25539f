use native.Mathlib.Omega.{arith}
use Rattle.vectors.proofs.Vectors.{past_none, past_more, word_is}
use Rattle.vectors.proofs.word.Goals as goal

pub loop-turn-init : goal.loop-turn-init
loop-turn-init c = past_none _

pub loop-turn-preserved : goal.loop-turn-preserved
loop-turn-preserved c = past_more _ _ _ _ c.field-at.ensures.2 c.loop-turn.invariant

pub returns : goal.returns
returns c = word_is _ _ _ _ _ (omega arith) c.field-start.ensures.2 c.loop-turn.invariant
