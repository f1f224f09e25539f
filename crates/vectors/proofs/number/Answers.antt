use mathlib.Core.Path.{sym, ◌∙◌}
use native.Mathlib.Omega.{arith}
use Rattle.vectors.proofs.Vectors.{number_full, number_more, number_end}
use Rattle.vectors.proofs.number.Goals as goal

pub returns-then-v-ge1000000000000000000 : goal.returns-then-v-ge1000000000000000000
returns-then-v-ge1000000000000000000 c = sym (c.loop-b.invariant.1 ∙ number_full _ _ c.if-v-ge1000000000000000000.true)

pub loop-b-preserved : goal.loop-b-preserved
loop-b-preserved c = (omega arith, number_more _ _ _ _ (omega arith) c.if-v-ge1000000000000000000.false (c.from.ensures ∙ c.hex_value.ensures.1) c.loop-b.invariant.1)

pub returns : goal.returns
returns c = sym (c.loop-b.invariant.1 ∙ number_end _ _ _ c.loop-b-test.false)
