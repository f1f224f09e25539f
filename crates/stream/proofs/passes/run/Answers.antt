use mathlib.Core.Path.{sym, ◌∙◌, ap, refl}
use Rattle.stream.specs.Shapes.{ran_by}
use Rattle.stream.proofs.Writes.{run_stops, run_moves, ran_end, step_sound}
use Rattle.stream.proofs.passes.run.Goals as goal

pub loop-x-init : goal.loop-x-init
loop-x-init c = (c.requires.coherent, refl)

pub step-requires : goal.step-requires
step-requires c = record {
  t_value = c.requires.t_value;
  coherent = c.loop-x.invariant.0;
}

pub returns-in-Err : goal.returns-in-Err
returns-in-Err c = run_stops c.args.room c.loop-x.c c.args.packet.now c.loop-x.x-index c.loop-x-test.true _ (rw c.in-Err.is at c.step.ensures) ∙ c.loop-x.invariant.1

pub loop-x-preserved : goal.loop-x-preserved
loop-x-preserved c =
    let e = rw c.in-Ok.is at c.step.ensures in
    (step_sound c.args.room c.loop-x.c _ _ _ c.loop-x.invariant.0 e, run_moves c.args.room c.loop-x.c c.args.packet.now c.loop-x.x-index c.loop-x-test.true _ _ e ∙ c.loop-x.invariant.1)

pub returns : goal.returns
returns c = sym (ap ran_by (ran_end c.args.room c.loop-x.c c.args.packet.now c.loop-x.x-index c.loop-x-test.false)) ∙ c.loop-x.invariant.1
