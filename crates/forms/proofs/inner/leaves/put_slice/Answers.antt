use Rattle.text.proofs.Splices.{wrote_then}
use Rattle.forms.specs.Printing.{slice_text}
use Rattle.forms.proofs.inner.leaves.put_slice.Goals as goal

pub returns : goal.returns
unfolding slice_text
returns c = wrote_then c.put-a.ensures (wrote_then c.put_signed-b.ensures (wrote_then c.put-c.ensures (wrote_then c.put_end-d.ensures c.put_byte.ensures)))
