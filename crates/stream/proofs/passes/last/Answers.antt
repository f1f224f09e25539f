-- The end's faults in the order 2, 3, 14. On each way out the tests before it are settled, so that the definition comes to the same: `last_2`,
-- `last_3`, `last_14`, and `last_goes` where there is none.
use mathlib.Core.Path.{sym, ◌∙◌}
use Rattle.stream.proofs.Sounds.{last_2, last_3, last_14, last_goes}
use Rattle.stream.proofs.passes.last.Goals as goal

pub returns-in-Some : goal.returns-in-Some
returns-in-Some c = last_2 c.args.room c.args.c c.in-Some.place (sym c.ended.ensures ∙ c.in-Some.is)

pub returns-in-Some-fault : goal.returns-in-Some-fault
returns-in-Some-fault c =
    let e = sym c.ended.ensures ∙ c.in_default.is in
    last_3 c.args.room c.args.c e c.finish-finish.result c.finish-finish.ensures c.in-Some-fault.place c.in-Some-fault.is

pub returns-in-Some-over : goal.returns-in-Some-over
returns-in-Some-over c =
    let e = sym c.ended.ensures ∙ c.in_default.is in
    last_14 c.args.room c.args.c e c.finish-finish.result c.finish-finish.ensures c.in-Some-over.place c.in_default-fault.is (sym c.over.ensures ∙ c.in-Some-over.is)

pub returns : goal.returns
returns c =
    let e = sym c.ended.ensures ∙ c.in_default.is in
    rw c.fresh.ensures (last_goes c.args.room c.args.c e c.finish-finish.result c.finish-finish.ensures c.in_default-fault.is (sym c.over.ensures ∙ c.in_default-over.is))
