-- Five stores, one behind the other, are one run of stores.
use Rattle.matcher.proofs.Rows.{put_five}
use lib.ListN.{length-set}
use native.Mathlib.Omega.{arith}
use Rattle.matcher.proofs.inner.lines.put_row.Goals as goal

pub bounds-records-at-2 : goal.bounds-records-at-2
bounds-records-at-2 c = simp length-set (omega arith)

pub bounds-records-at-3 : goal.bounds-records-at-3
bounds-records-at-3 c = simp length-set (omega arith)

pub bounds-records-at-4 : goal.bounds-records-at-4
bounds-records-at-4 c = simp length-set (omega arith)

pub bounds-records-at-5 : goal.bounds-records-at-5
bounds-records-at-5 c = simp length-set (omega arith)

pub returns : goal.returns
returns c = put_five c.args.records.now c.args.at c.args.row.number c.args.row.place c.args.row.matched c.args.row.length c.args.row.steps
