-- The room is measured first: of one byte more than there is, 0 is left exactly where the digits don't fit (`spent_over`, `spent_fits`).
-- Where they do, they are put at the front (`wrote_front`).
use mathlib.Core.Path.{refl, sym, ◌∙◌}
use native.Mathlib.Omega.{arith}
use borrow.Author.Tests.{le-leb, lt-leb}
use Rattle.text.specs.Digits.{decimal_put, decimal_in}
use Rattle.text.proofs.Splices.{spent_over, spent_fits, wrote_front}
use Rattle.text.proofs.write_decimal.Goals as goal

pub returns-then-spend_decimal-eq0 : goal.returns-then-spend_decimal-eq0
unfolding decimal_put decimal_in
returns-then-spend_decimal-eq0 c = record {
  value = rw (lt-leb _ _ (spent_over _ _ (sym c.spend_decimal.ensures ∙ c.if-spend_decimal-eq0.true)));
  out_after = refl;
}

pub put_decimal-requires : goal.put_decimal-requires
put_decimal-requires c =
    let f = spent_fits _ _ (λ z. c.if-spend_decimal-eq0.false (c.spend_decimal.ensures ∙ z)) in
    record { fits = omega (arith, f) }

pub returns : goal.returns
unfolding decimal_put decimal_in
returns c =
    let f = spent_fits _ _ (λ z. c.if-spend_decimal-eq0.false (c.spend_decimal.ensures ∙ z)) in
    let w = wrote_front c.put_decimal.ensures f in
    record {
      value = rw (le-leb _ _ f, w.1);
      out_after = w.0;
    }
