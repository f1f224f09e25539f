-- All rules before the one at hand have a name of their own.
use Rattle.std.specs.Prelude.{None}
use Rattle.links.specs.Program.{own_at}
use Rattle.table.specs.Check.{lowest}
use mathlib.Core.Path.{◌≡◌}
use Rattle.links.proofs.inner.ready.own_names.Given as goal

abbrev pub invariant-loop-k : goal.invariant-loop-k
invariant-loop-k l = lowest (own_at l.rules l.store) l.k ≡ None
