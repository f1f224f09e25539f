-- The second pass runs only where the first found no refusal.
use Rattle.stream.proofs.Writes.{ran_refuses, ran_stands}
use Rattle.stream.specs.Shapes.{gives_of}
use Rattle.states.specs.Steps.{Step, ran_of}
use Prim.Native.Nat.{◌*◌}
use lib.Seq.{sets}
use mathlib.Core.Path.{sym, ◌∙◌, ap}
use Rattle.token.specs.Table.{flat, room_of}
use Rattle.std.proofs.lemmas.Result.{err_from_is_err_and}
use Rattle.stream.proofs.passes.both.Goals as goal

pub write-requires : goal.write-requires
write-requires c =
    let w = ran_stands (ran_of (room_of c.args.list.now) c.args.from c.args.packet.now) c.in_ok-next.next c.in_ok-next.ensures in
    record {
      t_value = c.requires.t_value;
      coherent = c.requires.coherent;
      packet_value = w.good;
    }

pub returns-in_err-next : goal.returns-in_err-next
returns-in_err-next c =
    let p = err_from_is_err_and c.from_residual.result c.from_residual.ensures.1 in
    let g = ran_refuses (ran_of (room_of c.args.list.now) c.args.from c.args.packet.now) _ c.in_err-next.ensures in
    record {
      answer = rw (p.1, p.2) c.in_err-next.ensures;
      held = sym (ap (λ (z : Step). sets c.args.list.now (c.args.from.count * 3) (flat (gives_of z))) g);
    }

pub returns : goal.returns
returns c = record {
  answer = c.in_ok-next.ensures;
  held = c.write.ensures;
}
