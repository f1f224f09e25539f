-- A refusal that is held, one that the end shows, or tokens that are put into the list: each is a law of calls (`end_held`, `end_refused`, `end_good`).
-- Numbers that open a stream open a sound one, as `last` asks (`opened_sound`); a good end has room for what it gives (`last_room`).
use mathlib.Core.List.{◌++◌, []}
use native.Mathlib.Omega.{arith}
use mathlib.Core.Path.{sym, ◌∙◌, ap}
use Rattle.token.specs.Table.{room_of}
use Rattle.steps.specs.Shapes.{list_of}
use Rattle.stream.specs.Shapes.{standing}
use Rattle.stream.proofs.Writes.{last_room, opened_sound, end_held, end_held_in, end_refused, end_refused_in, end_good, end_good_in}
use Rattle.stream.proofs.Sounds.{many_small, many_two}
use Rattle.stream.proofs.feed_end.Goals as goal

pub last-last-requires : goal.last-last-requires
last-last-requires c =
    let e = sym c.status-status.ensures ∙ c.in-Open.is in
    opened_sound c.args.state c.in-Open.c e

pub put_two-requires : goal.put_two-requires
put_two-requires c =
    let e = sym c.status-status.ensures ∙ c.in-Open.is in
    let p = opened_sound c.args.state c.in-Open.c e in
    let g = rw c.in-Ok.is at c.last-last.ensures in
    record {
      n_bound = omega (arith, p.count, p.sum, p.short);
      here_value = last_room (room_of c.args.list.now) c.in-Open.c (list_of c.in-Ok.moved.before ++ list_of c.in-Ok.moved.here) c.in-Ok.moved.stand g;
    }

pub overflow_add-records : goal.overflow_add-records
overflow_add-records c =
    let e = sym c.status-status.ensures ∙ c.in-Open.is in
    let p = opened_sound c.args.state c.in-Open.c e in
    omega (arith, c.many.ensures, many_small c.in-Ok.moved.before, p.count, p.sum, p.short)

pub overflow_add-records-in-Ok : goal.overflow_add-records-in-Ok
overflow_add-records-in-Ok c =
    let e = sym c.status-status.ensures ∙ c.in-Open.is in
    let p = opened_sound c.args.state c.in-Open.c e in
    omega (arith, c.many.ensures, c.many-in-Ok.ensures, many_small c.in-Ok.moved.before, many_small c.in-Ok.moved.here, p.count, p.sum, p.short)

pub returns-in-Held : goal.returns-in-Held
returns-in-Held c =
    let e = sym c.status-status.ensures ∙ c.in-Held.is in
    record {
      answer = c.refused.ensures ∙ end_held c.args.state [] c.args.list.now c.in-Held.number c.in-Held.place c.in-Held.records e;
      held = end_held_in c.args.state [] c.args.list.now c.in-Held.number c.in-Held.place c.in-Held.records e;
    }

pub returns-in-Err : goal.returns-in-Err
returns-in-Err c =
    let e = sym c.status-status.ensures ∙ c.in-Open.is in
    let g = rw c.in-Err.is at c.last-last.ensures in
    record {
      answer = c.refused-in-Err.ensures ∙ end_refused c.args.state [] c.args.list.now c.in-Open.c e c.in-Err.stop.number c.in-Err.stop.place g;
      held = end_refused_in c.args.state [] c.args.list.now c.in-Open.c e c.in-Err.stop.number c.in-Err.stop.place g;
    }

pub returns-in-Ok : goal.returns-in-Ok
returns-in-Ok c =
    let e = sym c.status-status.ensures ∙ c.in-Open.is in
    let g = rw c.in-Ok.is at c.last-last.ensures in
    let m = many_two c.in-Open.c.count c.many.result c.many-in-Ok.result c.in-Ok.moved.before c.in-Ok.moved.here c.many.ensures c.many-in-Ok.ensures in
    record {
      answer = c.good.ensures ∙ ap (standing c.in-Ok.moved.stand) m ∙ end_good c.args.state [] c.args.list.now c.in-Open.c e (list_of c.in-Ok.moved.before ++ list_of c.in-Ok.moved.here) c.in-Ok.moved.stand g;
      held = c.put_two.ensures ∙ end_good_in c.args.state [] c.args.list.now c.in-Open.c e (list_of c.in-Ok.moved.before ++ list_of c.in-Ok.moved.here) c.in-Ok.moved.stand g;
    }
