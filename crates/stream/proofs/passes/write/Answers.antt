use Prim.Native.Nat.{◌*◌}
use lib.Seq.{sets, length-sets}
use lib.ListN.{length}
use native.Mathlib.Omega.{arith}
use mathlib.Core.Path.{sym, ◌∙◌, ap, refl, ◌≡◌}
use Rattle.token.specs.Table.{flat, room_of}
use Rattle.states.specs.Steps.{Step}
use Rattle.stream.specs.Shapes.{gives_of}
use Rattle.stream.proofs.Writes.{good_goes, good_moves, write_moves, ran_end, step_room, step_sound}
use Rattle.stream.proofs.passes.write.Goals as goal

pub loop-x-init : goal.loop-x-init
loop-x-init c = (refl, c.requires.coherent, c.requires.packet_value, refl)

pub step-requires : goal.step-requires
step-requires c = record {
  t_value = c.requires.t_value;
  coherent = c.loop-x.invariant.1;
}

pub shape_of-list-in_default : goal.shape_of-list-in_default
shape_of-list-in_default c = c.loop-x.invariant.0

pub returns-in_default : goal.returns-in_default
returns-in_default c = absurd (good_goes (room_of c.args.list.now) c.loop-x.c c.args.packet.now c.loop-x.x-index c.loop-x-test.true _ _ (rw c.in_default.is at c.step.ensures) c.loop-x.invariant.2)

pub put_two-requires : goal.put_two-requires
put_two-requires c =
    let w = c.loop-x in
    let s = c.args in
    let p = w.invariant.1 in
    let l : length w.list ≡ length s.list.now = w.invariant.0 in
    let e = rw c.in-Ok.is at c.step.ensures in
    record {
      n_bound = omega (arith, p.count, p.sum, p.short);
      here_value = rw l (step_room (room_of s.list.now) w.c _ _ _ e).0;
    }

pub loop-x-preserved : goal.loop-x-preserved
loop-x-preserved c =
    let l = simp length-sets at (ap length c.put_two.ensures) in
    let e = rw c.in-Ok.is at c.step.ensures in
    let m = (step_room (room_of c.args.list.now) c.loop-x.c _ _ _ e).1 in
    (l ∙ c.loop-x.invariant.0, step_sound (room_of c.args.list.now) c.loop-x.c _ _ _ c.loop-x.invariant.1 e, good_moves (room_of c.args.list.now) c.loop-x.c c.args.packet.now c.loop-x.x-index c.loop-x-test.true _ _ e c.loop-x.invariant.2, write_moves (room_of c.args.list.now) c.loop-x.c c.args.packet.now c.loop-x.x-index c.loop-x-test.true c.loop-x.list _ _ _ e c.loop-x.invariant.2 m c.put_two.ensures ∙ c.loop-x.invariant.3)

pub shape_of-list : goal.shape_of-list
shape_of-list c = c.loop-x.invariant.0

pub returns : goal.returns
returns c = sym (ap (λ (z : Step). sets c.loop-x.list (c.loop-x.c.count * 3) (flat (gives_of z))) (ran_end (room_of c.args.list.now) c.loop-x.c c.args.packet.now c.loop-x.x-index c.loop-x-test.false)) ∙ c.loop-x.invariant.3
