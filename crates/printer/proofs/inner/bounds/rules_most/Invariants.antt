-- The sum is the bound of the first k rules, and at most k times 2^33, so that no addition overflows. `rules_more` adds a rule.
use Rattle.printer.specs.Bounds.{rules_most}
use mathlib.Core.Path.{◌≡◌}
use Prim.Native.Nat.{◌*◌, ◌≤◌}
use Rattle.printer.proofs.inner.bounds.rules_most.Given as goal

abbrev pub invariant-loop-k : goal.invariant-loop-k
invariant-loop-k l = (l.sum ≡ rules_most l.rules l.k) × (l.sum ≤ l.k * 0x2_0000_0000)
