use Rattle.matcher.proofs.Leaves.{alike_fold}
use mathlib.Core.Path.{◌∙◌}
use Rattle.matcher.proofs.inner.leaves.alike.Goals as goal

pub returns-then-fold : goal.returns-then-fold
returns-then-fold c = c.eq_ignore_ascii_case.ensures ∙ rw c.if-fold.true (alike_fold _ _)
