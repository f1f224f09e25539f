use Rattle.matcher.proofs.Rows.{before_first, before_byte, before_cr, before_last, ends_text, ends_lf, ends_crlf}
use native.Mathlib.Omega.{arith}
use Rattle.matcher.proofs.inner.lines.line_at.Goals as goal
use Rattle.matcher.proofs.inner.lines.line_at.Goals.{else-text-i-eq13-via-then-text-i-eq13+then-e-n+else-text-e-eq10, else-text-i-eq13-via-then-text-i-eq13+else-e-n, else-text-i-eq13-via-else-text-i-eq13}

pub loop-i-init : goal.loop-i-init
loop-i-init c = before_first _ _ c.requires

pub returns-then-text-i-eq10 : goal.returns-then-text-i-eq10
returns-then-text-i-eq10 c = let e = ends_lf _ _ _ c.loop-i.invariant (omega arith) c.if-text-i-eq10.true in (e.stop, e.next)

pub returns-then-text-e-eq10 : goal.returns-then-text-e-eq10
returns-then-text-e-eq10 c = let e = ends_crlf _ _ _ c.loop-i.invariant (omega arith) c.if-text-i-eq10.false (omega arith) (omega arith) c.if-text-e-eq10.true in (e.stop, e.next)

pub loop-i-preserved : goal.loop-i-preserved
loop-i-preserved c =
    elim c.else-text-i-eq13.branch [
      | else-text-i-eq13-via-then-text-i-eq13+then-e-n+else-text-e-eq10 w ↦ before_cr _ _ _ c.loop-i.invariant (omega arith) c.if-text-i-eq10.false (omega arith) (omega arith) w.if-text-e-eq10.false
      | else-text-i-eq13-via-then-text-i-eq13+else-e-n w ↦ before_last _ _ _ c.loop-i.invariant (omega arith) c.if-text-i-eq10.false (omega arith) (omega arith)
      | else-text-i-eq13-via-else-text-i-eq13 w ↦ before_byte _ _ _ c.loop-i.invariant (omega arith) c.if-text-i-eq10.false (λ e. omega arith)
    ]

pub returns : goal.returns
returns c = let e = ends_text _ _ _ c.loop-i.invariant (omega arith) in (omega (arith, e.stop), omega (arith, e.next))
