-- The lent tables are those of the definition, so that what is looked up is what it adds. No entry is above 30 and no factor above 10,
-- so that the product and both sums stay far below 64 bits.
use Prim.Native.Nat.{ℕ, ◌*◌, ◌≤◌}
use mathlib.Core.Path.{◌≡◌, ap, ◌∙◌}
use mathlib.Core.List.{List}
use native.Mathlib.Omega.{arith}
use native.Mathlib.Nat.{mul-le-mul_right}
use lib.ListN.{get_or}
use Rattle.printer.specs.Bounds.{mosts, factors, node_most}
use Rattle.printer.proofs.Bounds.{most_low, factor_low}
use Rattle.printer.proofs.inner.bounds.node_most.Goals as goal

factor_is : (t : List ℕ) (k r : ℕ) → t ≡ factors → r ≡ get_or t k 0 → r ≤ 10
factor_is t k r e h = let a = ap (λ (x : List ℕ). get_or x k 0) e in omega (arith, factor_low k)

most_is : (t : List ℕ) (k r : ℕ) → t ≡ mosts → r ≡ get_or t k 0 → r ≤ 30
most_is t k r e h = let a = ap (λ (x : List ℕ). get_or x k 0) e in omega (arith, most_low k)

pub overflow_mul-text : goal.overflow_mul-text
overflow_mul-text c = omega (arith, mul-le-mul_right c.args.q (factor_is _ _ _ c.requires.factors_value c.from.ensures))

pub overflow_add-result : goal.overflow_add-result
overflow_add-result c = omega (arith, most_is _ _ _ c.requires.mosts_value c.from-2.ensures, mul-le-mul_right c.args.q (factor_is _ _ _ c.requires.factors_value c.from.ensures))

pub overflow_add-result-2 : goal.overflow_add-result-2
overflow_add-result-2 c =
    omega (
      arith,
      c.tag_most.ensures.upper_bound,
      most_is _ _ _ c.requires.mosts_value c.from-2.ensures,
      mul-le-mul_right c.args.q (factor_is _ _ _ c.requires.factors_value c.from.ensures),
    )

pub returns : goal.returns
unfolding node_most
returns c =
    let k = c.args.kind in
    let q = c.args.q in
    let m = c.from-2.ensures ∙ ap (λ (x : List ℕ). get_or x k 0) c.requires.mosts_value in
    let f = ap (λ x. x * q) (c.from.ensures ∙ ap (λ (x : List ℕ). get_or x k 0) c.requires.factors_value) in
    let l = mul-le-mul_right q (factor_is _ _ _ c.requires.factors_value c.from.ensures) in
    record {
      value = omega (arith, m, f, c.tag_most.ensures.value);
      upper_bound = omega (arith, c.tag_most.ensures.upper_bound, most_is _ _ _ c.requires.mosts_value c.from-2.ensures, l);
    }
