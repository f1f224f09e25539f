-- The invariant of `lowest_node`, from a node on before which none is false.
use Rattle.std.specs.Prelude.{None}
use mathlib.Core.Path.{◌≡◌}
use lib.ListN.{length}
use Rattle.table.specs.Check.{good_at, lowest, Firsts}
use Rattle.table.proofs.inner.heavy.lowest_from.Given as goal

abbrev pub invariant-loop-i : goal.invariant-loop-i
invariant-loop-i l = (lowest (good_at l.nodes l.texts.store.now) l.i ≡ None) × Firsts l.nodes l.firsts l.i × (length l.firsts ≡ length l.initial.firsts)
