use mathlib.Core.Path.{sym, ◌∙◌}
use native.Mathlib.Omega.{arith}
use Rattle.token.proofs.Comments.{close_over, close_last, close_neither, close_opens, close_closes, close_done}
use Rattle.token.proofs.inner.blanks.comment_end.Goals as goal

pub loop-i-preserved-in-Neither : goal.loop-i-preserved-in-Neither
loop-i-preserved-in-Neither c = (sym (close_neither _ _ _ c.if-i-s.true (sym c.mark_of.ensures ∙ c.in-Neither.is)) ∙ c.loop-i.invariant.0, omega arith, omega arith)

pub loop-i-preserved-in-Opens : goal.loop-i-preserved-in-Opens
loop-i-preserved-in-Opens c = (sym (close_opens _ _ _ c.if-i-s.true (sym c.mark_of.ensures ∙ c.in-Opens.is)) ∙ c.loop-i.invariant.0, omega arith, omega arith)

pub returns-then-opened-eq0 : goal.returns-then-opened-eq0
returns-then-opened-eq0 c = sym (close_done _ _ _ c.if-i-s.true (omega arith) (sym c.mark_of.ensures ∙ c.in-Closes.is)) ∙ c.loop-i.invariant.0

pub loop-i-preserved : goal.loop-i-preserved
loop-i-preserved c = (sym (close_closes _ _ _ c.if-i-s.true (omega arith) (sym c.mark_of.ensures ∙ c.in-Closes.is)) ∙ c.loop-i.invariant.0, omega arith, omega arith)

pub returns-else-i-s : goal.returns-else-i-s
returns-else-i-s c = sym (close_last _ _ _ c.loop-i-test.true c.if-i-s.false) ∙ c.loop-i.invariant.0

pub returns-after-loop-i : goal.returns-after-loop-i
returns-after-loop-i c = sym (close_over _ _ _ c.loop-i-test.false) ∙ c.loop-i.invariant.0
