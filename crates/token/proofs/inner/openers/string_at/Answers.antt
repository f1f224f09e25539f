-- By where the inside ends: at a `"` (`string_closed`), at a bad backslash (`string_bad`), or with the text (`string_open`).
-- A walk that stops does so at a byte of the text (`string_inside`), so that this byte can be read.
use mathlib.Core.Path.{sym, ◌∙◌}
use native.Mathlib.Omega.{arith}
use Rattle.token.proofs.Strings.{string_inside, string_closed, string_bad, string_open}
use Rattle.token.proofs.inner.openers.string_at.Goals as goal

pub bounds-s-i : goal.bounds-s-i
bounds-s-i c = string_inside c.args.s.now c.args.at c.args.k _ (sym c.inside_end-inside.ensures ∙ c.in-Some.is)

pub overflow_add-result : goal.overflow_add-result
overflow_add-result c = omega (arith, string_inside c.args.s.now c.args.at c.args.k _ (sym c.inside_end-inside.ensures ∙ c.in-Some.is))

pub returns-then-s-i-eq34 : goal.returns-then-s-i-eq34
returns-then-s-i-eq34 c = string_closed _ _ _ _ (sym c.inside_end-inside.ensures ∙ c.in-Some.is) _ c.if-s-i-eq34.true

pub returns-in-None : goal.returns-in-None
returns-in-None c = string_open _ _ _ _ (sym c.inside_end-inside.ensures ∙ c.in-None.is)

pub returns-else-s-i-eq34 : goal.returns-else-s-i-eq34
returns-else-s-i-eq34 c = string_bad _ _ _ _ (sym c.inside_end-inside.ensures ∙ c.in-Some.is) _ c.if-s-i-eq34.false
