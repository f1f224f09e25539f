-- 3, then 14, or the stream moves on: `takes_3`, `takes_14`, `takes_on`. A byte ends two tokens at most (`many_small`), so that the count does not overflow.
use native.Mathlib.Omega.{arith}
use mathlib.Core.Path.{sym, ◌∙◌}
use Rattle.stream.proofs.Sounds.{many_small, takes_3, takes_14, takes_on}
use Rattle.stream.proofs.passes.take.Goals as goal

pub returns-in-Some : goal.returns-in-Some
returns-in-Some c = takes_3 c.args.room c.args.c c.args.utf c.args.row c.in-Some.place (sym c.refused.ensures ∙ c.in-Some.is)

pub returns-in-Some-over_two : goal.returns-in-Some-over_two
returns-in-Some-over_two c =
    let h = sym c.refused.ensures ∙ c.in_default.is in
    takes_14 c.args.room c.args.c c.args.utf c.args.row h c.in-Some-over_two.place (sym c.over_two.ensures ∙ c.in-Some-over_two.is)

pub overflow_add-result-2 : goal.overflow_add-result-2
overflow_add-result-2 c = omega (arith, c.many.ensures, many_small c.args.row.before, c.requires.count_le_max_text)

pub overflow_add-result-3 : goal.overflow_add-result-3
overflow_add-result-3 c = omega (arith, c.many.ensures, c.many-2.ensures, many_small c.args.row.before, many_small c.args.row.here, c.requires.count_le_max_text)

pub returns : goal.returns
returns c =
    let h = sym c.refused.ensures ∙ c.in_default.is in
    takes_on c.args.room c.args.c c.args.utf c.args.row h c.many.result c.many-2.result c.many.ensures c.many-2.ensures (sym c.over_two.ensures ∙ c.in_default-over_two.is)
