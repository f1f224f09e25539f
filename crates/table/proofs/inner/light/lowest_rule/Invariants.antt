-- No rule below k is false. So the first rule that fails is the lowest (`lowest_bad`), and from a long name on `lowest_rule_from` finds it.
use Rattle.std.specs.Prelude.{None}
use mathlib.Core.Path.{◌≡◌}
use Rattle.table.specs.Check.{good_rule, lowest}
use Rattle.table.proofs.inner.light.lowest_rule.Given as goal

abbrev pub invariant-loop-k : goal.invariant-loop-k
invariant-loop-k l = lowest (good_rule l.all.nodes.now l.all.rules.now l.texts.store.now) l.k ≡ None
