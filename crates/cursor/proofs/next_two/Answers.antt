-- Two calls of a cursor that is made at the text and the place (`said_two`).
use Rattle.cursor.proofs.Cursors.{said_two}
use Rattle.cursor.proofs.next_two.Goals as goal

pub returns : goal.returns
returns c =
    let first = c.next-first.ensures in
    let second = c.next-second.ensures in
    said_two c.args.text c.args.place _ _ _ _ _ c.new-cursor.ensures (first.answer, first.numbers, first.place) (second.answer, second.numbers, second.place)
