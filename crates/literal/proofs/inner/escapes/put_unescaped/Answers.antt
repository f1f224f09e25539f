use mathlib.Core.Path.{sym, ◌∙◌}
use native.Mathlib.Omega.{arith}
use Rattle.text.proofs.Walks.{same_start, same_end, spelled_end, later_zero}
use Rattle.text.proofs.Encodes.{scalar_below}
use Rattle.literal.specs.Escapes.{escape_piece, unescaped, bad_escape}
use Rattle.literal.proofs.Escaped.{meant, good_scalar, means_look, plain_look, means_turn, plain_turn}
use Rattle.literal.proofs.Turns.{turn_room, turn_same}
use Rattle.literal.proofs.inner.escapes.put_unescaped.Goals as goal

pub loop-i-init : goal.loop-i-init
unfolding unescaped bad_escape
loop-i-init c = (same_start _ _ _, later_zero _ ∙ c.requires.s_value)

pub put_byte-a-requires : goal.put_byte-a-requires
put_byte-a-requires c = turn_room (plain_turn _ _ c.loop-i-test.true (sym c.escape_in-escape.ensures ∙ c.in-None.is)) c.loop-i.invariant.0 c.requires.room

pub loop-i-preserved-in-None : goal.loop-i-preserved-in-None
loop-i-preserved-in-None c =
    let e = sym c.escape_in-escape.ensures ∙ c.in-None.is in
    let l = c.loop-i-test.true in
    (turn_same (plain_turn _ _ l e) c.loop-i.invariant.0 c.put_byte-a.ensures, sym (plain_look _ _ l e) ∙ c.loop-i.invariant.1)

pub put_char-a-requires : goal.put_char-a-requires
put_char-a-requires c =
    let e = sym c.escape_in-escape.ensures ∙ c.in-Some.is in
    let l = c.loop-i-test.true in
    record {
      c_bound = scalar_below _ (good_scalar _ _ l _ _ c.loop-i.invariant.1 e);
      room = turn_room (means_turn _ _ l _ _ e) c.loop-i.invariant.0 c.requires.room;
    }

pub overflow_add-i-in-Some : goal.overflow_add-i-in-Some
overflow_add-i-in-Some c = omega (arith, (meant _ _ _ (sym c.escape_in-escape.ensures ∙ c.in-Some.is)).ten)

pub loop-i-smaller : goal.loop-i-smaller
loop-i-smaller c = omega (arith, (meant _ _ _ (sym c.escape_in-escape.ensures ∙ c.in-Some.is)).two)

pub loop-i-preserved : goal.loop-i-preserved
loop-i-preserved c =
    let e = sym c.escape_in-escape.ensures ∙ c.in-Some.is in
    let l = c.loop-i-test.true in
    let g = good_scalar _ _ l _ _ c.loop-i.invariant.1 e in
    (turn_same (means_turn _ _ l _ _ e) c.loop-i.invariant.0 c.put_char-a.ensures, sym (means_look _ _ l _ _ e g) ∙ c.loop-i.invariant.1)

pub shape_of-out : goal.shape_of-out
shape_of-out c = c.loop-i.invariant.0.long

pub returns : goal.returns
returns c = same_end c.loop-i.invariant.0 (spelled_end escape_piece _ _ c.loop-i-test.false)
