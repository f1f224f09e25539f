-- No node below i is false, and `firsts`, as long as at first, has the first nodes of those. A turn's verdict is the first node to be stored
-- (`firsts_more`); where there is none, `lowest_from` goes on from i.
use Rattle.std.specs.Prelude.{None}
use mathlib.Core.Path.{◌≡◌}
use lib.ListN.{length}
use Rattle.table.specs.Check.{good_at, lowest, Firsts}
use Rattle.table.proofs.inner.light.lowest_node.Given as goal

abbrev pub invariant-loop-i : goal.invariant-loop-i
invariant-loop-i l = (lowest (good_at l.nodes l.texts.store.now) l.i ≡ None) × Firsts l.nodes l.firsts l.i × (length l.firsts ≡ length l.initial.firsts)
