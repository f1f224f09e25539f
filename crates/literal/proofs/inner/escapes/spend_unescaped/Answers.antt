use mathlib.Core.Path.{refl, sym, ◌∙◌}
use native.Mathlib.Omega.{arith}
use Rattle.text.specs.Splice.{spent}
use Rattle.text.proofs.Walks.{spelled_end}
use Rattle.literal.specs.Escapes.{escape_piece, unescaped}
use Rattle.literal.proofs.Escaped.{meant, means_turn, plain_turn}
use Rattle.literal.proofs.Turns.{turn_spent, turn_end}
use Rattle.literal.proofs.inner.escapes.spend_unescaped.Goals as goal

pub loop-i-init : goal.loop-i-init
unfolding unescaped
loop-i-init c = refl

pub loop-i-preserved-in-None : goal.loop-i-preserved-in-None
unfolding spent
loop-i-preserved-in-None c = rw c.spend-left.ensures (turn_spent (plain_turn _ _ c.loop-i-test.true (sym c.escape_in-escape.ensures ∙ c.in-None.is)) _ ∙ c.loop-i.invariant)

pub overflow_add-i-in-Some : goal.overflow_add-i-in-Some
overflow_add-i-in-Some c = omega (arith, (meant _ _ _ (sym c.escape_in-escape.ensures ∙ c.in-Some.is)).ten)

pub loop-i-smaller : goal.loop-i-smaller
loop-i-smaller c = omega (arith, (meant _ _ _ (sym c.escape_in-escape.ensures ∙ c.in-Some.is)).two)

pub loop-i-preserved : goal.loop-i-preserved
loop-i-preserved c = rw c.spend_char-left.ensures (turn_spent (means_turn _ _ c.loop-i-test.true _ _ (sym c.escape_in-escape.ensures ∙ c.in-Some.is)) _ ∙ c.loop-i.invariant)

pub returns : goal.returns
returns c = sym (turn_end _ (spelled_end escape_piece _ _ c.loop-i-test.false)) ∙ c.loop-i.invariant
