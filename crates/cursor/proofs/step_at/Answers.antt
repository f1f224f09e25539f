use Rattle.cursor.proofs.Cursors.{stepped}
use Rattle.cursor.proofs.step_at.Goals as goal

pub returns : goal.returns
returns c = stepped _ _ _ _ c.next_token-listed.ensures.answer c.next_token-listed.ensures.numbers c.place_after.ensures
