use Rattle.std.specs.Prelude.{Some}
use Rattle.structure.proofs.Faults.{faults_start, faults_more, faults_stop, faults_none}
use native.Mathlib.Omega.{arith}
use mathlib.Core.Path.{refl}
use Rattle.structure.proofs.inner.values.faults.Goals as goal

pub loop-i-init : goal.loop-i-init
loop-i-init c = faults_start _ _ _

pub loop-i-preserved : goal.loop-i-preserved
loop-i-preserved c = faults_more _ _ _ _ _ (let h = c.loop-i-test.true in omega arith) c.loop-i.invariant _ c.fault_at-fault.ensures c.in-None.is _ c.kind_at-before.ensures

pub returns-in-Some : goal.returns-in-Some
returns-in-Some c = faults_stop _ _ _ _ _ (let h = c.loop-i-test.true in omega arith) c.loop-i.invariant _ c.fault_at-fault.ensures (Some _) (λ f. refl) c.in-Some.is

pub returns : goal.returns
returns c = faults_none _ _ _ _ _ (let h = c.loop-i-test.false in omega arith) c.loop-i.invariant
