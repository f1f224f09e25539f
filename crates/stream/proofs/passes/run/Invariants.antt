-- Invariant: c is sound, and the bytes from the index on, run from c, end as the whole packet does: at its place or refusal.
-- A byte that goes on keeps it (`run_moves`), one that is refused ends the packet's run (`run_stops`).
use lib.ListN.{drop}
use mathlib.Core.Path.{◌≡◌}
use Rattle.stream.specs.Shapes.{ran_by, Coherent}
use Rattle.states.specs.Steps.{ran_of}
use Rattle.stream.proofs.passes.run.Given as goal

abbrev pub invariant-loop-x : goal.invariant-loop-x
invariant-loop-x l = Coherent l.c × (ran_by (ran_of l.room l.c (drop l.x-index l.packet)) ≡ ran_by (ran_of l.room l.initial.c l.packet))
