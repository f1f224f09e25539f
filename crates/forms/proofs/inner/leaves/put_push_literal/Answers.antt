use Rattle.text.proofs.Splices.{wrote_then}
use Rattle.forms.specs.Printing.{sort_text}
use Rattle.forms.proofs.inner.leaves.put_push_literal.Goals as goal

pub returns : goal.returns
unfolding sort_text
returns c = wrote_then c.put-a.ensures (wrote_then c.put_literal-b.ensures c.put_byte.ensures)
