-- `digits_of` ends where the returns do (`digits_stop`, `digits_full`, `digits_end`). The first bytes are those of the text (`get_or-take`).
use Prim.Native.Nat.{◌<◌}
use mathlib.Core.Path.{◌≡◌, sym, ap, ◌∙◌}
use mathlib.Core.Logic.{⊎_elim}
use native.Mathlib.Omega.{arith}
use lib.ListN.{length, take}
use lib.Seq.{length-take-le, get_or-take}
use Rattle.text.specs.Digits.{hex_of}
use Rattle.text.proofs.Tests.{lt_or_ge}
use Rattle.literal.proofs.Escaped.{hex_below, pow_room, pow_next, digits_step, digits_full, digits_stop, digits_end}
use Rattle.literal.proofs.inner.escapes.digits_of.Goals as goal

pub returns-in_default : goal.returns-in_default
returns-in_default c =
    let n : length (take c.min.result c.args.s.now) ≡ c.min.result = length-take-le c.min.result c.args.s.now (omega arith) in
    let b = get_or-take c.min.result c.args.s.now c.loop-b.b-index 0 (omega arith) in
    let e = ap hex_of (sym b) ∙ (sym c.hex_of.ensures ∙ c.in_default.is) in
    sym (digits_stop c.args.m c.loop-b.digits.value c.loop-b.digits.count c.args.s.now c.loop-b.b-index (omega arith) (omega arith) e) ∙ c.loop-b.invariant.0

pub overflow_mul-digits : goal.overflow_mul-digits
overflow_mul-digits c =
    let n : length (take c.min.result c.args.s.now) ≡ c.min.result = length-take-le c.min.result c.args.s.now (omega arith) in
    let l : c.loop-b.digits.count < 6 = omega arith in
    omega (arith, pow_room _ _ c.loop-b.invariant.1 l)

pub overflow_add-digits : goal.overflow_add-digits
overflow_add-digits c =
    let n : length (take c.min.result c.args.s.now) ≡ c.min.result = length-take-le c.min.result c.args.s.now (omega arith) in
    let l : c.loop-b.digits.count < 6 = omega arith in
    omega (arith, pow_room _ _ c.loop-b.invariant.1 l, hex_below _ _ (sym c.hex_of.ensures ∙ c.in-Some.is))

pub loop-b-preserved : goal.loop-b-preserved
loop-b-preserved c =
    let n : length (take c.min.result c.args.s.now) ≡ c.min.result = length-take-le c.min.result c.args.s.now (omega arith) in
    let b = get_or-take c.min.result c.args.s.now c.loop-b.b-index 0 (omega arith) in
    let e = ap hex_of (sym b) ∙ (sym c.hex_of.ensures ∙ c.in-Some.is) in (
      sym (digits_step c.args.m c.loop-b.digits.value c.loop-b.digits.count _ c.args.s.now c.loop-b.b-index (omega arith) (omega arith) e) ∙ c.loop-b.invariant.0,
      pow_next _ _ _ c.loop-b.invariant.1 (hex_below _ _ e),
      omega arith,
    )

pub returns : goal.returns
returns c =
    let n : length (take c.min.result c.args.s.now) ≡ c.min.result = length-take-le c.min.result c.args.s.now (omega arith) in
    ⊎_elim (λ l. sym (digits_full _ _ _ _ (omega arith)) ∙ c.loop-b.invariant.0) (λ g. sym (digits_end _ _ _ _ _ g) ∙ c.loop-b.invariant.0)
    (lt_or_ge c.loop-b.b-index (length c.args.s.now))
