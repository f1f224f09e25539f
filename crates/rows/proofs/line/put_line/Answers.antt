use Rattle.text.proofs.Splices.{wrote_then}
use Rattle.rows.specs.Line.{refusal_line}
use Rattle.rows.proofs.line.put_line.Goals as goal

pub returns : goal.returns
unfolding refusal_line
returns c = wrote_then c.put-a.ensures (wrote_then c.put_number-b.ensures (wrote_then c.put-c.ensures (wrote_then c.put_number-d.ensures c.put_byte.ensures)))
