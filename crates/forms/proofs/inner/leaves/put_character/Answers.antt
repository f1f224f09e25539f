use Rattle.text.proofs.Splices.{wrote_then}
use Rattle.forms.specs.Printing.{character}
use Rattle.forms.proofs.inner.leaves.put_character.Goals as goal

pub returns : goal.returns
unfolding character
returns c = wrote_then c.put_byte-a.ensures (wrote_then c.put_shown-b.ensures c.put_byte.ensures)
