use native.Mathlib.Omega.{arith}
use lib.ListN.{length-set}
use mathlib.Core.Bool.{true, false}
use Rattle.std.proofs.Common.{eq-eqb}
use Rattle.std.proofs.lemmas.Bool.{ne_eqb}
use Rattle.vectors.proofs.Buffers.{numbers_more, numbers_full, numbers_end}
use Rattle.vectors.proofs.numbers.Goals as goal
use Rattle.vectors.proofs.numbers.Goals.{then-b-eq44, else-b-eq44}

pub returns-then-out-k-clause-left : goal.returns-then-out-k-clause-left
returns-then-out-k-clause-left c = numbers_full _ _ c.loop-b.v _ _ c.loop-b.b-index c.loop-b.invariant.1 c.if-out-k.true

pub loop-b-preserved : goal.loop-b-preserved
loop-b-preserved c =
    elim c.if-b-eq44.branch [
      | then-b-eq44 w ↦ (simp length-set (omega arith), numbers_more _ _ _ _ _ _ c.loop-b.invariant.1 _ _ _ true c.loop-b-test.true c.if-out-k.false c.more-v.ensures (eq-eqb _ _ w.if-b-eq44.true) w.k-is w.v-is)
      | else-b-eq44 w ↦ (simp length-set (omega arith), numbers_more _ _ _ _ _ _ c.loop-b.invariant.1 _ _ _ false c.loop-b-test.true c.if-out-k.false c.more-v.ensures (ne_eqb _ _ w.if-b-eq44.false) (omega arith) w.v-is)
    ]

pub returns-clause-left : goal.returns-clause-left
returns-clause-left c = numbers_end _ _ _ _ _ _ c.loop-b.invariant.1 c.loop-b-test.false
