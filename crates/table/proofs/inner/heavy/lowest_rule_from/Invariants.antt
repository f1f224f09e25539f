-- The invariant of `lowest_rule`, from a rule on before which none is false.
use Rattle.std.specs.Prelude.{None}
use mathlib.Core.Path.{◌≡◌}
use Rattle.table.specs.Check.{good_rule, lowest}
use Rattle.table.proofs.inner.heavy.lowest_rule_from.Given as goal

abbrev pub invariant-loop-k : goal.invariant-loop-k
invariant-loop-k l = lowest (good_rule l.all.nodes.now l.all.rules.now l.texts.store.now) l.k ≡ None
