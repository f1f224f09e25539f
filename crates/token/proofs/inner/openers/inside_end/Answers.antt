use mathlib.Core.Path.{refl, sym, ◌∙◌}
use native.Mathlib.Omega.{arith}
use Rattle.text.proofs.Walks.{sought_end}
use Rattle.literal.proofs.Escaped.{meant}
use Rattle.token.specs.Tokens.{inside_look}
use Rattle.token.proofs.Strings.{inside_quote, inside_bad, inside_escape, inside_byte}
use Rattle.token.proofs.inner.openers.inside_end.Goals as goal

pub loop-i-init : goal.loop-i-init
loop-i-init c = refl

pub returns-in-34 : goal.returns-in-34
returns-in-34 c = sym (inside_quote _ _ c.loop-i-test.true c.in-34.is) ∙ c.loop-i.invariant

pub overflow_add-i : goal.overflow_add-i
overflow_add-i c = let m = meant _ _ _ (sym c.escape_at.ensures ∙ c.in-Some.is) in omega arith

pub loop-i-smaller-in-Some : goal.loop-i-smaller-in-Some
loop-i-smaller-in-Some c = let m = meant _ _ _ (sym c.escape_at.ensures ∙ c.in-Some.is) in omega arith

pub loop-i-preserved-in-Some : goal.loop-i-preserved-in-Some
loop-i-preserved-in-Some c = sym (inside_escape _ _ c.loop-i-test.true _ _ (λ e. omega arith) (sym c.escape_at.ensures ∙ c.in-Some.is)) ∙ c.loop-i.invariant

pub returns-in-None : goal.returns-in-None
returns-in-None c = sym (inside_bad _ _ c.loop-i-test.true c.in-92.is (λ e. omega arith) (sym c.escape_at.ensures ∙ c.in-None.is)) ∙ c.loop-i.invariant

pub loop-i-preserved : goal.loop-i-preserved
loop-i-preserved c = sym (inside_byte _ _ c.loop-i-test.true (λ e. omega arith) (λ e. omega arith)) ∙ c.loop-i.invariant

pub returns : goal.returns
returns c = sym (sought_end inside_look _ _ c.loop-i-test.false) ∙ c.loop-i.invariant
