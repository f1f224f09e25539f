-- Each turn puts the line of one record more.
use Rattle.rows.proofs.Records.{Putting}
use Rattle.rows.proofs.row.put_rows.Given as goal

abbrev pub invariant-loop-i : goal.invariant-loop-i
invariant-loop-i l = Putting l.records l.k l.initial.out l.out l.i l.at l.refused
