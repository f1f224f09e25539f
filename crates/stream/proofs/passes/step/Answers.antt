-- 1, then 2, then what `take` finds: `stops_1`, `stops_2`, `stops_later`. On each way out the tests before it are settled.
-- The table and `take` ask for small numbers and a state that fits, which a sound stream has.
use mathlib.Core.Path.{sym, ◌∙◌}
use Rattle.steps.specs.Shapes.{out_of}
use Rattle.stream.proofs.Sounds.{stops_1, stops_2, stops_later}
use Rattle.stream.proofs.passes.step.Goals as goal

pub returns-in-Some : goal.returns-in-Some
returns-in-Some c = stops_1 c.args.room c.args.c c.args.x c.in-Some.place (sym c.long.ensures ∙ c.in-Some.is)

pub returns-in-Some-broken : goal.returns-in-Some-broken
returns-in-Some-broken c =
    let e = sym c.long.ensures ∙ c.in_default.is in
    stops_2 c.args.room c.args.c c.args.x c.in-Some-broken.place c.step-utf.result e c.step-utf.ensures (sym c.broken.ensures ∙ c.in-Some-broken.is)

pub returns : goal.returns
returns c =
    let e = sym c.long.ensures ∙ c.in_default.is in
    let g = sym c.broken.ensures ∙ c.in_default-broken.is in
    c.take.ensures ∙ stops_later c.args.room c.args.c c.args.x c.step-utf.result (out_of c.step.result) e c.step-utf.ensures g c.step.ensures
