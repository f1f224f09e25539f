use Rattle.rows.proofs.Blocks.{whole_end, whole_none, whole_lf}
use Rattle.rows.specs.Block.{whole_size}
use native.Mathlib.Omega.{arith}
use lib.ListN.{drop}
use Prim.Native.Nat.{ℕ, ◌+◌, ◌-◌, suc}
use mathlib.Core.Path.{◌≡◌, sym, ap, ◌∙◌}
use Rattle.rows.proofs.whole_lines.Goals as goal

pub loop-i-init : goal.loop-i-init
loop-i-init c = whole_end c.args.text.now

pub returns-then-text-i-eq10 : goal.returns-then-text-i-eq10
returns-then-text-i-eq10 c =
    let i = c.loop-i.i in
    let text = c.args.text.now in
    let z : i ≡ suc (i - 1) = omega arith in
    let y : i - 1 + 1 ≡ suc (i - 1) = omega arith in
    y ∙ sym (whole_lf text (i - 1) (omega arith) c.if-text-i-eq10.true (ap (λ (k : ℕ). whole_size (drop k text)) (sym z) ∙ c.loop-i.invariant))

pub loop-i-preserved : goal.loop-i-preserved
loop-i-preserved c =
    let i = c.loop-i.i in
    let text = c.args.text.now in
    let z : i ≡ suc (i - 1) = omega arith in
    whole_none text (i - 1) (omega arith) c.if-text-i-eq10.false (ap (λ (k : ℕ). whole_size (drop k text)) (sym z) ∙ c.loop-i.invariant)
