use mathlib.Core.Path.{refl}
use native.Mathlib.Nat.{add-zero}
use native.Mathlib.Omega.{arith}
use lib.Seq.{take_all}
use Rattle.text.proofs.Splices.{wrote_none, wrote_more, wrote_length}
use Rattle.text.proofs.inner.splice.put.Goals as goal

pub loop-i-init : goal.loop-i-init
loop-i-init c = rw add-zero (wrote_none _ _)

pub bounds-out-at : goal.bounds-out-at
bounds-out-at c = omega (arith, c.requires.fits, wrote_length c.loop-i.invariant)

pub loop-i-preserved : goal.loop-i-preserved
loop-i-preserved c = wrote_more _ _ c.loop-i-test.true c.loop-i.invariant

pub shape_of-out : goal.shape_of-out
shape_of-out c = wrote_length c.loop-i.invariant

pub returns : goal.returns
returns c =
    let w = rw (take_all _ _ c.loop-i-test.false) at c.loop-i.invariant in
    record { now = w.now; next = refl }
