use borrow.Author.Rules.{rules}
use Rattle.vectors.proofs.Buffers.{pieces_start, pieces_more, pieces_done}
use Rattle.vectors.proofs.pieces.Goals as goal

pub loop-turn-init : goal.loop-turn-init
loop-turn-init c = (search rules, search rules, pieces_start _ _ _)

pub loop-turn-preserved : goal.loop-turn-preserved
loop-turn-preserved c =
    let i = c.loop-turn.invariant in (
      search rules,
      search rules,
      pieces_more _ _ _ _ _ _ i.2 _ _ _ _ _ _ _ _ c.loop-turn-test.true i.1 (rw c.from.ensures at c.word.ensures) (rw c.from.ensures at c.word-in-loop-turn.ensures) c.number-times.ensures c.unhex-n.ensures.left c.repeat-k.ensures.left,
    )

pub returns-clause-left : goal.returns-clause-left
returns-clause-left c = pieces_done _ _ _ _ _ _ c.loop-turn.invariant.2 c.loop-turn-test.false
