-- A byte that passes is one of the run (`run_step`); at another, or at the text's end, none is left (`run_stop`, `run_rest`).
use Rattle.std.proofs.Common.{sym, ◌∙◌}
use Rattle.token.proofs.Runs.{run_step, run_stop, run_rest}
use Rattle.token.proofs.inner.runs.run_end.Goals as goal

pub returns-then-not-inside : goal.returns-then-not-inside
returns-then-not-inside g c =
    λ p h. sym (run_stop p _ _ c.loop-i-test.true (sym (h _ _ c.loop-i-test.true c.inside.ensures) ∙ c.if-not-inside.true)) ∙ c.loop-i.invariant p h

pub loop-i-preserved : goal.loop-i-preserved
loop-i-preserved g c =
    λ p h. sym (run_step p _ _ c.loop-i-test.true (sym (h _ _ c.loop-i-test.true c.inside.ensures) ∙ c.if-not-inside.false)) ∙ c.loop-i.invariant p h

pub returns : goal.returns
returns g c =
    λ p h. c.max.ensures ∙ run_rest p _ c.args.at _ c.loop-i.auto.i-end c.loop-i-test.false (c.loop-i.invariant p h)
