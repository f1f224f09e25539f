-- All rules before the one at hand have another name.
use Rattle.std.specs.Prelude.{None}
use mathlib.Core.Path.{◌≡◌}
use Rattle.table.specs.Check.{lowest}
use Rattle.table.specs.Names.{other_name}
use Rattle.table.proofs.inner.names.rule_named.Given as goal

abbrev pub invariant-loop-k : goal.invariant-loop-k
invariant-loop-k l = lowest (other_name l.rules l.store l.name) l.k ≡ None
