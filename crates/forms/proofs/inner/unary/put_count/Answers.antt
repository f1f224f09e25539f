-- What stands before the number, the number, and what stands after it.
use Rattle.text.proofs.Splices.{wrote_then}
use Rattle.forms.proofs.inner.unary.put_count.Goals as goal

pub returns : goal.returns
returns g c = wrote_then c.put-a.ensures (wrote_then c.put_decimal-b.ensures c.put.ensures)
