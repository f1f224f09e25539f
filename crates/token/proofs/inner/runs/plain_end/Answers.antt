use mathlib.Core.Path.{sym, ◌∙◌}
use native.Mathlib.Omega.{arith}
use Rattle.token.proofs.Runs.{line_plain}
use Rattle.token.proofs.inner.runs.plain_end.Goals as goal

pub loop-i-preserved : goal.loop-i-preserved
loop-i-preserved c = sym (line_plain 16 _ _ (omega arith) (c.is_plain.ensures.plain c.if-is_plain.true)) ∙ c.loop-i.invariant
