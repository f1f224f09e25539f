-- What the packet did, told as a call.
use Rattle.stream.proofs.Writes.{opened_sound, feed_held, feed_held_in, feed_refused, feed_refused_in, feed_good, feed_good_in, ran_refuses, ran_stands}
use Rattle.stream.specs.Shapes.{gives_of}
use Rattle.states.specs.Steps.{Step, ran_of}
use lib.Seq.{sets}
use Prim.Native.Nat.{◌*◌}
use mathlib.Core.Path.{sym, ◌∙◌, ap}
use Rattle.token.specs.Table.{flat, room_of}
use Rattle.stream.proofs.feed_packet.Goals as goal

pub feed-ran-requires : goal.feed-ran-requires
feed-ran-requires c =
    let e = sym c.status-status.ensures ∙ c.in-Open.is in
    record {
      t_value = c.classes-t.ensures;
      coherent = opened_sound c.args.state c.in-Open.c e;
    }

pub returns-in-Held : goal.returns-in-Held
returns-in-Held c =
    let e = sym c.status-status.ensures ∙ c.in-Held.is in
    record {
      answer = c.refused.ensures ∙ feed_held c.args.state c.args.packet.now c.args.list.now c.in-Held.number c.in-Held.place c.in-Held.records e;
      held = feed_held_in c.args.state c.args.packet.now c.args.list.now c.in-Held.number c.in-Held.place c.in-Held.records e;
    }

pub returns-in-Err : goal.returns-in-Err
returns-in-Err c =
    let e = sym c.status-status.ensures ∙ c.in-Open.is in
    let g = ran_refuses (ran_of (room_of c.args.list.now) c.in-Open.c c.args.packet.now) c.in-Err.stop (sym c.in-Err.is ∙ c.feed-ran.ensures.answer) in
    record {
      answer = c.refused-in-Err.ensures ∙ feed_refused c.args.state c.args.packet.now c.args.list.now c.in-Open.c e c.in-Err.stop.number c.in-Err.stop.place g;
      held = c.feed-ran.ensures.held ∙ ap (λ (z : Step). sets c.args.list.now (c.in-Open.c.count * 3) (flat (gives_of z))) g ∙ feed_refused_in c.args.state c.args.packet.now c.args.list.now c.in-Open.c e c.in-Err.stop.number c.in-Err.stop.place g;
    }

pub returns-in-Ok : goal.returns-in-Ok
returns-in-Ok c =
    let e = sym c.status-status.ensures ∙ c.in-Open.is in
    let w = ran_stands (ran_of (room_of c.args.list.now) c.in-Open.c c.args.packet.now) c.in-Ok.next (sym c.in-Ok.is ∙ c.feed-ran.ensures.answer) in
    record {
      answer = c.good.ensures ∙ feed_good c.args.state c.args.packet.now c.args.list.now c.in-Open.c e w.tokens c.in-Ok.next w.stands;
      held = c.feed-ran.ensures.held ∙ feed_good_in c.args.state c.args.packet.now c.args.list.now c.in-Open.c e w.tokens c.in-Ok.next w.stands;
    }
