use Rattle.text.proofs.Splices.{wrote_then}
use Rattle.rows.specs.Rows.{run_line}
use Rattle.rows.proofs.row.put_run.Goals as goal

pub returns : goal.returns
unfolding run_line
returns c = wrote_then c.put_length-a.ensures (wrote_then c.put_byte-b.ensures (wrote_then c.put_number-c.ensures c.put_byte.ensures))
