-- No scalar, no room, or written. The room is measured first: of one byte more than there is, 0 is left exactly where the bytes don't fit
-- (`spent_over`, `spent_fits`). Where they do, they are put at the front (`wrote_front`).
use mathlib.Core.Path.{refl, sym, ◌∙◌}
use native.Mathlib.Omega.{arith}
use borrow.Author.Tests.{le-leb, lt-leb}
use Rattle.text.specs.Utf8.{encode_of, encode_in}
use Rattle.text.proofs.Encodes.{scalar_below}
use Rattle.text.proofs.Splices.{spent_over, spent_fits, wrote_front}
use Rattle.text.proofs.encode.Goals as goal

pub returns-then-not-is_scalar : goal.returns-then-not-is_scalar
unfolding encode_of encode_in
returns-then-not-is_scalar c = record {
  value = rw (sym c.is_scalar.ensures ∙ c.if-not-is_scalar.true);
  out_after = refl;
}

pub returns-then-spend_char-eq0 : goal.returns-then-spend_char-eq0
unfolding encode_of encode_in
returns-then-spend_char-eq0 c =
    let o = spent_over _ _ (sym c.spend_char.ensures ∙ c.if-spend_char-eq0.true) in
    record {
      value = rw (sym c.is_scalar.ensures ∙ c.if-not-is_scalar.false, lt-leb _ _ o);
      out_after = refl;
    }

pub put_char-requires : goal.put_char-requires
put_char-requires c =
    let f = spent_fits _ _ (λ z. c.if-spend_char-eq0.false (c.spend_char.ensures ∙ z)) in
    record {
      c_bound = scalar_below _ (sym c.is_scalar.ensures ∙ c.if-not-is_scalar.false);
      room = record { fits = omega (arith, f) };
    }

pub returns : goal.returns
unfolding encode_of encode_in
returns c =
    let f = spent_fits _ _ (λ z. c.if-spend_char-eq0.false (c.spend_char.ensures ∙ z)) in
    let w = wrote_front c.put_char.ensures f in
    record {
      value = rw (sym c.is_scalar.ensures ∙ c.if-not-is_scalar.false, le-leb _ _ f, w.1);
      out_after = w.0;
    }
