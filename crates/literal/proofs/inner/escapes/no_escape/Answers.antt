use mathlib.Core.Path.{sym, ◌∙◌}
use native.Mathlib.Omega.{arith}
use Rattle.text.proofs.Walks.{later_zero, sought_end}
use Rattle.literal.specs.Escapes.{stray_look, no_escape}
use Rattle.literal.proofs.Escaped.{meant, means_stray, other_stray, slash_stray}
use Rattle.literal.proofs.inner.escapes.no_escape.Goals as goal

pub loop-i-init : goal.loop-i-init
unfolding no_escape
loop-i-init c = later_zero _

pub returns-then-s-i-eq92 : goal.returns-then-s-i-eq92
returns-then-s-i-eq92 c = sym (slash_stray _ _ c.loop-i-test.true (sym c.escape_in-escape.ensures ∙ c.in-None.is) c.if-s-i-eq92.true) ∙ c.loop-i.invariant

pub loop-i-preserved-in-None : goal.loop-i-preserved-in-None
loop-i-preserved-in-None c = sym (other_stray _ _ c.loop-i-test.true (sym c.escape_in-escape.ensures ∙ c.in-None.is) c.if-s-i-eq92.false) ∙ c.loop-i.invariant

pub overflow_add-i-in-Some : goal.overflow_add-i-in-Some
overflow_add-i-in-Some c = omega (arith, (meant _ _ _ (sym c.escape_in-escape.ensures ∙ c.in-Some.is)).ten)

pub loop-i-smaller : goal.loop-i-smaller
loop-i-smaller c = omega (arith, (meant _ _ _ (sym c.escape_in-escape.ensures ∙ c.in-Some.is)).two)

pub loop-i-preserved : goal.loop-i-preserved
loop-i-preserved c = sym (means_stray _ _ c.loop-i-test.true _ _ (sym c.escape_in-escape.ensures ∙ c.in-Some.is)) ∙ c.loop-i.invariant

pub returns : goal.returns
returns c = sym (sought_end stray_look _ _ c.loop-i-test.false) ∙ c.loop-i.invariant
