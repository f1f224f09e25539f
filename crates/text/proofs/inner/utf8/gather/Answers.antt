use Prim.Native.Nat.{◌<◌}
use mathlib.Core.Path.{sym, ◌∙◌}
use mathlib.Core.Logic.{⊎_elim}
use native.Mathlib.Omega.{arith}
use lib.ListN.{get_or}
use Rattle.text.proofs.Gathers.{gather_short, front_byte, gather_step, gather_stop, gather_end, gather_next}
use Rattle.text.proofs.Tests.{within_low, within_high}
use Rattle.text.proofs.inner.utf8.gather.Goals as goal

pub returns-in_default : goal.returns-in_default
returns-in_default c = ⊎_elim (λ n. absurd (omega arith)) (λ h. sym (gather_short _ _ _ h)) c.in_default.ensures.lookup.0

pub returns-in_default-x : goal.returns-in_default-x
returns-in_default-x c =
    let f = c.in-Some.ensures.lookup.0 in
    let m : c.loop-x.x-index < c.args.more = omega (arith, f.3, c.loop-x-test.true) in
    let x = get_or c.in-Some.tail.now c.loop-x.x-index 0 in
    sym (gather_stop _ _ _ _ m x (omega arith) (front_byte _ _ _ _ f.2 m) (within_low 0x80 0xbf x (omega arith))) ∙ c.loop-x.invariant.0

pub returns-in_default-x-2 : goal.returns-in_default-x-2
returns-in_default-x-2 c =
    let f = c.in-Some.ensures.lookup.0 in
    let m : c.loop-x.x-index < c.args.more = omega (arith, f.3, c.loop-x-test.true) in
    let x = get_or c.in-Some.tail.now c.loop-x.x-index 0 in
    sym (gather_stop _ _ _ _ m x (omega arith) (front_byte _ _ _ _ f.2 m) (within_high 0x80 0xbf x (omega arith))) ∙ c.loop-x.invariant.0

pub loop-x-preserved : goal.loop-x-preserved
loop-x-preserved c =
    let f = c.in-Some.ensures.lookup.0 in
    let m : c.loop-x.x-index < c.args.more = omega (arith, f.3, c.loop-x-test.true) in
    let b = front_byte _ _ _ _ f.2 m in
    rw c.from.ensures (sym (gather_step _ _ _ _ m _ (omega arith) b (omega arith) (omega arith)) ∙ c.loop-x.invariant.0, gather_next _ _ _ c.loop-x.invariant.1 (omega arith))

pub returns : goal.returns
returns c =
    let f = c.in-Some.ensures.lookup.0 in
    sym (gather_end _ _ _ _ (omega (arith, f.3, c.loop-x-test.false))) ∙ c.loop-x.invariant.0
