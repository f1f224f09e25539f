use mathlib.Core.Path.{sym, ap, ◌∙◌}
use native.Mathlib.Omega.{arith}
use Rattle.cursor.specs.declared.Two.{Two}
use Rattle.cursor.proofs.Cursors.{two_on}
use Rattle.token_run.proofs.run_cursor.Goals as goal

pub loop-init : goal.loop-init
loop-init c = tt

pub loop-smaller : goal.loop-smaller
loop-smaller c =
    let i = two_on _ _ _ _ _ (sym (ap (λ (t : Two). t.second) c.next_two-two.ensures) ∙ c.in-Next.is) in
    rw c.next_two-two.ensures (omega (arith, i))

pub loop-preserved : goal.loop-preserved
loop-preserved c = tt
