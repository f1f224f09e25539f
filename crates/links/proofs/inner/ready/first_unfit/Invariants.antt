-- All nodes before the one at hand can be run.
use Rattle.std.specs.Prelude.{None}
use Rattle.links.specs.Program.{fit_at}
use Rattle.table.specs.Check.{lowest}
use mathlib.Core.Path.{◌≡◌}
use Rattle.links.proofs.inner.ready.first_unfit.Given as goal

abbrev pub invariant-loop-i : goal.invariant-loop-i
invariant-loop-i l = lowest (fit_at l.nodes) l.i ≡ None
