use Rattle.text.proofs.Splices.{wrote_then}
use Rattle.forms.specs.Printing.{range_text}
use Rattle.forms.proofs.inner.leaves.put_range.Goals as goal

pub returns : goal.returns
unfolding range_text
returns c = wrote_then c.put_character-a.ensures (wrote_then c.put-b.ensures c.put_character.ensures)
