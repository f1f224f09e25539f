-- What settle and leap stashed is one leap; the first pass over the rest then decides whether it is written.
use Rattle.stream.proofs.Leaps.{so_many, leapt_both, leapt_longer, stash_fits, list_fits, ran_stops, ran_on, stores}
use Rattle.stream.proofs.Writes.{ran_refuses, ran_stands}
use Rattle.stream.specs.Shapes.{ran_by, gives_of}
use Rattle.states.specs.Steps.{Step, ran_of}
use lib.Seq.{sets, length-sets}
use lib.ListN.{length}
use Prim.Native.Nat.{◌*◌}
use mathlib.Core.Path.{sym, ◌∙◌, ap, refl}
use native.Mathlib.Omega.{arith}
use Rattle.token.specs.Table.{flat, room_of}
use Rattle.std.proofs.lemmas.Result.{err_from_is_err_and}
use Rattle.stream.proofs.passes.quick.fast.Goals as goal

pub leap-middle-requires : goal.leap-middle-requires
leap-middle-requires c = record {
  t_value = c.requires.t_value;
  coherent = c.settle-front.ensures.sound;
  i_in_bounds = c.settle-front.ensures.within;
  m_bound = so_many _ c.args.from _ _ _ _ _ c.settle-front.ensures;
}

pub run-requires : goal.run-requires
run-requires c = record {
  t_value = c.requires.t_value;
  coherent = c.leap-middle.ensures.sound;
}

pub overflow_mul-from : goal.overflow_mul-from
overflow_mul-from c = omega (arith, c.requires.coherent.count, c.requires.coherent.sum, c.requires.coherent.short)

pub overflow_sub-c : goal.overflow_sub-c
overflow_sub-c c =
    let h = leapt_both _ c.args.from _ _ _ _ _ c.settle-front.ensures _ _ _ c.leap-middle.ensures in
    omega (arith, h.counted)

pub overflow_mul-c : goal.overflow_mul-c
overflow_mul-c c =
    let h = leapt_longer _ c.args.from c.args.packet.now _ _ _ _ _ c.cut-end.ensures (leapt_both _ c.args.from _ _ _ _ _ c.settle-front.ensures _ _ _ c.leap-middle.ensures) in
    let p = h.sound in
    omega (arith, p.count, p.sum, p.short)

pub copy-requires : goal.copy-requires
copy-requires c =
    let h = leapt_longer _ c.args.from c.args.packet.now _ _ _ _ _ c.cut-end.ensures (leapt_both _ c.args.from _ _ _ _ _ c.settle-front.ensures _ _ _ c.leap-middle.ensures) in
    record {
      n_in_bounds = stash_fits _ c.args.from c.args.packet.now _ _ _ _ h;
      n_in_bounds_2 = list_fits _ c.args.from c.args.packet.now _ _ _ _ h c.args.list.now refl;
    }

pub slice_bounds-write-count : goal.slice_bounds-write-count
slice_bounds-write-count c =
    let h = leapt_longer _ c.args.from c.args.packet.now _ _ _ _ _ c.cut-end.ensures (leapt_both _ c.args.from _ _ _ _ _ c.settle-front.ensures _ _ _ c.leap-middle.ensures) in
    omega (arith, h.within)

pub slice_bounds-write-start : goal.slice_bounds-write-start
slice_bounds-write-start c =
    let h = leapt_longer _ c.args.from c.args.packet.now _ _ _ _ _ c.cut-end.ensures (leapt_both _ c.args.from _ _ _ _ _ c.settle-front.ensures _ _ _ c.leap-middle.ensures) in
    omega (arith, h.within)

pub write-requires : goal.write-requires
write-requires c =
    let l = simp length-sets at (ap length c.copy.ensures) in
    let w = ran_stands (ran_of (room_of c.args.list.now) _ _) c.in_ok-next.next c.in_ok-next.ensures in
    record {
      t_value = c.requires.t_value;
      coherent = c.leap-middle.ensures.sound;
      packet_value = rw l w.good;
    }

pub returns-in_err-next : goal.returns-in_err-next
returns-in_err-next c =
    let h = leapt_longer _ c.args.from c.args.packet.now _ _ _ _ _ c.cut-end.ensures (leapt_both _ c.args.from _ _ _ _ _ c.settle-front.ensures _ _ _ c.leap-middle.ensures) in
    let g = ran_stops (room_of c.args.list.now) c.args.from c.args.packet.now _ _ _ _ h _ _ (ran_refuses _ _ c.in_err-next.ensures) in
    let p = err_from_is_err_and c.from_residual.result c.from_residual.ensures.1 in
    record {
      answer = rw (p.1, p.2) (sym (ap ran_by g));
      held = sym (ap (λ (z : Step). sets c.args.list.now (c.args.from.count * 3) (flat (gives_of z))) g);
    }

pub returns : goal.returns
returns c =
    let h = leapt_longer _ c.args.from c.args.packet.now _ _ _ _ _ c.cut-end.ensures (leapt_both _ c.args.from _ _ _ _ _ c.settle-front.ensures _ _ _ c.leap-middle.ensures) in
    let w = ran_stands (ran_of (room_of c.args.list.now) _ _) c.in_ok-next.next c.in_ok-next.ensures in
    let l = simp length-sets at (ap length c.copy.ensures) in
    let o = rw (l, w.stands) at c.write.ensures in
    record {
      answer = sym (ap ran_by (ran_on (room_of c.args.list.now) c.args.from c.args.packet.now _ _ _ _ h w.tokens _ w.stands));
      held = stores (room_of c.args.list.now) c.args.from c.args.packet.now _ _ _ _ h c.args.list.now _ _ w.tokens _ w.stands c.copy.ensures o;
    }
