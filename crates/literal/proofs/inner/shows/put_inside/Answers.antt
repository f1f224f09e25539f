use mathlib.Core.Path.{sym, ◌∙◌}
use native.Mathlib.Omega.{arith}
use Rattle.text.proofs.Splices.{wrote_one}
use Rattle.text.proofs.Walks.{same_start, same_end, spelled_end}
use Rattle.text.proofs.Decodes.{decoded}
use Rattle.literal.specs.Literals.{char_piece, inside}
use Rattle.literal.proofs.Printed.{char_below, shown_turn, shown_skip, bare_turn}
use Rattle.literal.proofs.Turns.{turn_room, turn_same}
use Rattle.literal.proofs.inner.shows.put_inside.Goals as goal

pub loop-i-init : goal.loop-i-init
unfolding inside
loop-i-init c = same_start _ _ _

pub bounds-out-a : goal.bounds-out-a
bounds-out-a c =
    let b = sym c.is_bare.ensures ∙ c.if-is_bare.true in
    let room = turn_room (bare_turn _ _ _ c.loop-i-test.true b) c.loop-i.invariant c.requires in
    omega (arith, room.fits)

pub loop-i-preserved-then-is_bare : goal.loop-i-preserved-then-is_bare
loop-i-preserved-then-is_bare c =
    let b = sym c.is_bare.ensures ∙ c.if-is_bare.true in
    turn_same (bare_turn _ _ _ c.loop-i-test.true b) c.loop-i.invariant (wrote_one _ _ _)

pub put_shown-a-requires : goal.put_shown-a-requires
put_shown-a-requires c =
    let e = sym c.char_at-sequence.ensures ∙ c.in-Some.is in
    record {
      c_bound = char_below _ _ _ e;
      room = turn_room (shown_turn _ _ _ c.loop-i-test.true _ _ e) c.loop-i.invariant c.requires;
    }

pub overflow_add-i-in-Some : goal.overflow_add-i-in-Some
overflow_add-i-in-Some c = omega (arith, (decoded _ _ _ (sym c.char_at-sequence.ensures ∙ c.in-Some.is)).few)

pub loop-i-smaller-in-Some : goal.loop-i-smaller-in-Some
loop-i-smaller-in-Some c = omega (arith, (decoded _ _ _ (sym c.char_at-sequence.ensures ∙ c.in-Some.is)).some)

pub loop-i-preserved-in-Some : goal.loop-i-preserved-in-Some
loop-i-preserved-in-Some c = turn_same (shown_turn _ _ _ c.loop-i-test.true _ _ (sym c.char_at-sequence.ensures ∙ c.in-Some.is)) c.loop-i.invariant c.put_shown-a.ensures

pub loop-i-preserved : goal.loop-i-preserved
loop-i-preserved c = rw (shown_skip _ _ _ c.loop-i-test.true (sym c.char_at-sequence.ensures ∙ c.in-None.is)) at c.loop-i.invariant

pub shape_of-out : goal.shape_of-out
shape_of-out c = c.loop-i.invariant.long

pub returns : goal.returns
returns c = same_end c.loop-i.invariant (spelled_end (char_piece _) _ _ c.loop-i-test.false)
