-- Invariant: the list's length stays, c is sound, the bytes from the index on are good from c, and with their tokens put behind c's records the list is the one
-- that is promised. A good packet has no byte that is refused (`good_goes`); `write_moves` is a turn.
use Prim.Native.Nat.{◌*◌}
use mathlib.Core.Bool.{true}
use lib.Seq.{sets}
use lib.ListN.{length, drop}
use mathlib.Core.Path.{◌≡◌}
use Rattle.token.specs.Table.{flat}
use Rattle.states.specs.Steps.{ran_of}
use Rattle.stream.specs.Shapes.{gives_of, is_good, Coherent}
use Rattle.stream.proofs.passes.write.Given as goal

abbrev pub invariant-loop-x : goal.invariant-loop-x
invariant-loop-x l = (length l.list ≡ length l.initial.list) × Coherent l.c × (is_good (ran_of l.room l.c (drop l.x-index l.packet)) ≡ true) × (sets l.list (l.c.count * 3) (flat (gives_of (ran_of l.room l.c (drop l.x-index l.packet)))) ≡ sets l.initial.list (l.initial.c.count * 3) (flat (gives_of (ran_of l.room l.initial.c l.packet))))
