use mathlib.Core.Path.{sym, ◌∙◌}
use native.Mathlib.Omega.{arith}
use Rattle.text.proofs.Walks.{later_zero, sought_end}
use Rattle.literal.specs.Escapes.{escape_look, bad_escape}
use Rattle.literal.proofs.Escaped.{meant, means_look, plain_look, bad_look}
use Rattle.literal.proofs.inner.escapes.bad_escape.Goals as goal

pub loop-i-init : goal.loop-i-init
unfolding bad_escape
loop-i-init c = later_zero _

pub loop-i-preserved-in-None : goal.loop-i-preserved-in-None
loop-i-preserved-in-None c = sym (plain_look _ _ c.loop-i-test.true (sym c.escape_in-escape.ensures ∙ c.in-None.is)) ∙ c.loop-i.invariant

pub returns-then-not-is_scalar : goal.returns-then-not-is_scalar
returns-then-not-is_scalar c = sym (bad_look _ _ c.loop-i-test.true _ _ (sym c.escape_in-escape.ensures ∙ c.in-Some.is) (sym c.is_scalar.ensures ∙ c.if-not-is_scalar.true)) ∙ c.loop-i.invariant

pub overflow_add-i-in-Some : goal.overflow_add-i-in-Some
overflow_add-i-in-Some c = omega (arith, (meant _ _ _ (sym c.escape_in-escape.ensures ∙ c.in-Some.is)).ten)

pub loop-i-smaller : goal.loop-i-smaller
loop-i-smaller c = omega (arith, (meant _ _ _ (sym c.escape_in-escape.ensures ∙ c.in-Some.is)).two)

pub loop-i-preserved : goal.loop-i-preserved
loop-i-preserved c = sym (means_look _ _ c.loop-i-test.true _ _ (sym c.escape_in-escape.ensures ∙ c.in-Some.is) (sym c.is_scalar.ensures ∙ c.if-not-is_scalar.false)) ∙ c.loop-i.invariant

pub returns : goal.returns
returns c = sym (sought_end escape_look _ _ c.loop-i-test.false) ∙ c.loop-i.invariant
