use mathlib.Core.Path.{sym, ap, ◌∙◌}
use native.Mathlib.Omega.{arith}
use Rattle.text.specs.Utf8.{seq_look, look_by, first_bad}
use Rattle.text.proofs.Walks.{later_zero, sought_stop, sought_end}
use Rattle.text.proofs.Decodes.{decoded}
use Rattle.text.proofs.Encodes.{look_ascii, look_step}
use Rattle.text.proofs.Ascii.{low_good}
use Rattle.text.proofs.first_bad.Goals as goal

pub returns-then-is_ascii : goal.returns-then-is_ascii
returns-then-is_ascii c = sym (low_good _ (c.is_ascii.ensures.k_bound c.if-is_ascii.true))

pub loop-i-init : goal.loop-i-init
unfolding first_bad
loop-i-init c = later_zero _

pub loop-i-preserved-then-s-i-lt128 : goal.loop-i-preserved-then-s-i-lt128
loop-i-preserved-then-s-i-lt128 c = sym (look_ascii _ _ c.loop-i-test.true c.if-s-i-lt128.true) ∙ c.loop-i.invariant

pub overflow_add-i-in-Some : goal.overflow_add-i-in-Some
overflow_add-i-in-Some c =
    let d = decoded _ _ _ (sym c.char_at-sequence.ensures ∙ c.in-Some.is) in
    omega (arith, d.few)

pub loop-i-smaller : goal.loop-i-smaller
loop-i-smaller c =
    let d = decoded _ _ _ (sym c.char_at-sequence.ensures ∙ c.in-Some.is) in
    omega (arith, d.some)

pub loop-i-preserved : goal.loop-i-preserved
loop-i-preserved c = sym (look_step _ _ _ _ c.loop-i-test.true (sym c.char_at-sequence.ensures ∙ c.in-Some.is)) ∙ c.loop-i.invariant

pub returns-in-None : goal.returns-in-None
returns-in-None c = sym (sought_stop seq_look _ _ c.loop-i-test.true (ap look_by (sym c.char_at-sequence.ensures ∙ c.in-None.is))) ∙ c.loop-i.invariant

pub returns : goal.returns
returns c = sym (sought_end seq_look _ _ c.loop-i-test.false) ∙ c.loop-i.invariant
