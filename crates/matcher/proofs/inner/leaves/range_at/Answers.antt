-- A character that is found lies inside the line.
use Rattle.table.proofs.Characters.{char_inside}
use native.Mathlib.Omega.{arith}
use mathlib.Core.Path.{sym, ◌∙◌}
use Rattle.matcher.proofs.inner.leaves.range_at.Goals as goal

pub overflow_add-result : goal.overflow_add-result
overflow_add-result c = omega (arith, char_inside c.args.line.now c.args.at _ _ (sym c.char_at.ensures ∙ c.in-Some.is))
