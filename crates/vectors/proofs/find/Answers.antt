use native.Mathlib.Omega.{arith}
use Rattle.vectors.proofs.Vectors.{find_start, find_here, find_on, find_none}
use Rattle.vectors.proofs.find.Goals as goal

pub loop-i-init : goal.loop-i-init
loop-i-init c = find_start _ _ _ _

pub returns-then-s-i : goal.returns-then-s-i
returns-then-s-i c = (omega arith, λ h. omega arith, find_here _ _ _ _ _ (omega arith) c.if-s-i.true (c.loop-i.invariant (omega arith)))

pub loop-i-preserved : goal.loop-i-preserved
loop-i-preserved c = λ h. find_on _ _ _ _ _ (omega arith) c.if-s-i.false (c.loop-i.invariant h)

pub returns : goal.returns
returns c = (omega arith, λ h. h, find_none _ _ _ _ _ c.loop-i.auto.i-end c.loop-i.invariant c.loop-i-test.false)
