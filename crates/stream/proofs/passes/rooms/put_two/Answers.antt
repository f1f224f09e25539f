-- Room for both is room for the first (`over_first`) and, since stores keep the list's length, for the second behind it (`over_second`).
-- The two runs of stores are one (`put_more`).
use lib.Seq.{length-sets}
use lib.ListN.{length}
use native.Mathlib.Omega.{arith}
use mathlib.Core.Path.{◌∙◌, ap}
use Rattle.token.specs.Table.{room_of}
use Rattle.steps.specs.Shapes.{list_of}
use Rattle.stream.proofs.Writes.{over_first, over_second, put_more}
use Rattle.stream.proofs.Sounds.{many_small}
use Rattle.stream.proofs.passes.rooms.put_two.Goals as goal

pub put-requires : goal.put-requires
put-requires c = over_first (room_of c.args.list.now) c.args.n c.args.before c.args.here c.requires.here_value

pub overflow_add-n : goal.overflow_add-n
overflow_add-n c = omega (arith, c.many.ensures, many_small c.args.before, c.requires.n_bound)

pub put-requires-2 : goal.put-requires-2
put-requires-2 c =
    let l = simp length-sets at (ap length c.put.ensures) in
    rw (c.many.ensures, l) (over_second (room_of c.args.list.now) c.args.n c.args.before c.args.here c.requires.here_value)

pub returns : goal.returns
returns c = c.put-2.ensures ∙ rw (c.many.ensures, c.put.ensures) (put_more c.args.list.now c.args.n (list_of c.args.before) (list_of c.args.here))
