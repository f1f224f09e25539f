use Rattle.stream.proofs.Leaps.{leapt_none, over_yes, two_small, settle_turn}
use Rattle.stream.proofs.Writes.{step_room}
use Rattle.stream.proofs.Sounds.{many_small, many_two}
use lib.Seq.{length-sets}
use lib.ListN.{length}
use mathlib.Core.Path.{◌∙◌, ap, refl, ◌≡◌}
use native.Mathlib.Omega.{arith}
use Rattle.token.specs.Table.{room_of}
use Rattle.stream.proofs.passes.quick.settle.Goals as goal

pub loop-i-init : goal.loop-i-init
loop-i-init c = (refl, omega arith, leapt_none c.args.room c.args.from 0 0 c.args.packet.now c.args.stash.now c.requires.coherent (omega arith) (omega arith))

pub returns-then-between : goal.returns-then-between
returns-then-between c = c.loop-i.invariant.2

pub step-requires : goal.step-requires
step-requires c = record {
  t_value = c.requires.t_value;
  coherent = c.loop-i.invariant.2.sound;
}

pub shape_of-stash-in_default : goal.shape_of-stash-in_default
shape_of-stash-in_default c = c.loop-i.invariant.0

pub returns-in_default : goal.returns-in_default
returns-in_default c = c.loop-i.invariant.2

pub put_two-requires : goal.put_two-requires
put_two-requires c =
    let w = c.loop-i in
    let p = w.invariant.2.sound in
    let l : length w.stash ≡ length c.args.stash.now = w.invariant.0 in
    record {
      n_bound = omega (arith, w.invariant.1, p.count, p.sum, p.short);
      here_value = rw l (over_yes (room_of c.args.stash.now) _ w.n (omega (arith, two_small c.in-Ok.moved.before c.in-Ok.moved.here)));
    }

pub overflow_add-n : goal.overflow_add-n
overflow_add-n c =
    let p = c.loop-i.invariant.2.sound in
    omega (arith, c.loop-i.invariant.1, p.count, p.sum, p.short)

pub overflow_add-n-in-loop-i : goal.overflow_add-n-in-loop-i
overflow_add-n-in-loop-i c = omega (arith, c.many.ensures, many_small c.in-Ok.moved.before, c.many-in-loop-i.ensures, many_small c.in-Ok.moved.here)

pub overflow_add-n-in-loop-i-2 : goal.overflow_add-n-in-loop-i-2
overflow_add-n-in-loop-i-2 c =
    let p = c.loop-i.invariant.2.sound in
    omega (arith, c.loop-i.invariant.1, p.count, p.sum, p.short, c.many.ensures, many_small c.in-Ok.moved.before, c.many-in-loop-i.ensures, many_small c.in-Ok.moved.here)

pub loop-i-preserved : goal.loop-i-preserved
loop-i-preserved c =
    let l = simp length-sets at (ap length c.put_two.ensures) in
    let e = rw c.in-Ok.is at c.step.ensures in
    let m = (step_room c.args.room c.loop-i.c _ _ _ e).1 in
    let k = many_two c.loop-i.n _ _ c.in-Ok.moved.before c.in-Ok.moved.here c.many.ensures c.many-in-loop-i.ensures in
    (l ∙ c.loop-i.invariant.0, omega (arith, c.loop-i.invariant.1), settle_turn c.args.room c.args.from c.args.packet.now c.args.stash.now c.loop-i.stash _ c.loop-i.c c.loop-i.i c.loop-i.n c.in-Ok.moved.before c.in-Ok.moved.here _ c.loop-i.invariant.2 c.loop-i.invariant.1 c.loop-i-test.true (omega arith) e c.put_two.ensures)
