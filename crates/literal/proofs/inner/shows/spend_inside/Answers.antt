use mathlib.Core.Path.{refl, sym, ◌∙◌}
use native.Mathlib.Omega.{arith}
use Rattle.text.specs.Splice.{spent}
use Rattle.text.proofs.Walks.{spelled_end}
use Rattle.text.proofs.Decodes.{decoded}
use Rattle.literal.specs.Literals.{char_piece, inside}
use Rattle.literal.proofs.Printed.{char_below, shown_turn, shown_skip, bare_turn}
use Rattle.literal.proofs.Turns.{turn_spent, turn_end}
use Rattle.literal.proofs.inner.shows.spend_inside.Goals as goal

pub loop-i-init : goal.loop-i-init
unfolding inside
loop-i-init c = refl

pub loop-i-preserved-then-is_bare : goal.loop-i-preserved-then-is_bare
unfolding spent
loop-i-preserved-then-is_bare c =
    let b = sym c.is_bare.ensures ∙ c.if-is_bare.true in
    rw c.spend-left.ensures (turn_spent (bare_turn _ _ _ c.loop-i-test.true b) _ ∙ c.loop-i.invariant)

pub spend_shown-left-requires : goal.spend_shown-left-requires
spend_shown-left-requires c = char_below _ _ _ (sym c.char_at-sequence.ensures ∙ c.in-Some.is)

pub overflow_add-i-in-Some : goal.overflow_add-i-in-Some
overflow_add-i-in-Some c = omega (arith, (decoded _ _ _ (sym c.char_at-sequence.ensures ∙ c.in-Some.is)).few)

pub loop-i-smaller-in-Some : goal.loop-i-smaller-in-Some
loop-i-smaller-in-Some c = omega (arith, (decoded _ _ _ (sym c.char_at-sequence.ensures ∙ c.in-Some.is)).some)

pub loop-i-preserved-in-Some : goal.loop-i-preserved-in-Some
loop-i-preserved-in-Some c =
    let e = sym c.char_at-sequence.ensures ∙ c.in-Some.is in
    rw c.spend_shown-left.ensures (turn_spent (shown_turn _ _ _ c.loop-i-test.true _ _ e) _ ∙ c.loop-i.invariant)

pub loop-i-preserved : goal.loop-i-preserved
loop-i-preserved c =
    let e = sym c.char_at-sequence.ensures ∙ c.in-None.is in
    rw (shown_skip _ _ _ c.loop-i-test.true e) at c.loop-i.invariant

pub returns : goal.returns
returns c = sym (turn_end _ (spelled_end (char_piece _) _ _ c.loop-i-test.false)) ∙ c.loop-i.invariant
