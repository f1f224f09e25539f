use Rattle.text.proofs.Splices.{wrote_then}
use Rattle.forms.proofs.inner.unary.put_counts.Goals as goal

pub returns : goal.returns
returns c = wrote_then c.put_byte-a.ensures (wrote_then c.put_decimal-b.ensures c.put_count.ensures)
