use mathlib.Core.Path.{sym, ◌∙◌}
use native.Mathlib.Omega.{arith}
use Rattle.token.proofs.Lister.{next_in}
use Rattle.token_run.proofs.run_list.Goals as goal

pub loop-end-init : goal.loop-end-init
loop-end-init c = tt

pub loop-end-smaller : goal.loop-end-smaller
loop-end-smaller c =
    let i = next_in _ _ _ _ _ (sym c.next_token-listed.ensures.answer ∙ c.in-Next.is) in
    omega arith

pub loop-end-preserved : goal.loop-end-preserved
loop-end-preserved c = tt
