use lib.Dec.{leb}
use native.Mathlib.Omega.{arith}
use mathlib.Core.Path.{sym, refl, ap, ◌∙◌}
use Rattle.known.proofs.Runs.{part_step, part_stop, part_end, part_runs}
use Rattle.known.proofs.inner.runs.all_in_word.Goals as goal

pub loop-i-init : goal.loop-i-init
loop-i-init c = (c.requires.p_le_e, refl)

pub bounds-runs-i : goal.bounds-runs-i
bounds-runs-i c = omega (arith, c.requires.store_len_bound)

pub returns-then-i-eq0 : goal.returns-then-i-eq0
returns-then-i-eq0 c = ap (leb c.args.e) (c.requires.runs.at c.loop-i.i (omega arith) c.if-i-eq0.true) ∙ sym (part_runs _ _ c.requires.e_in_bounds _ c.loop-i.invariant.0) ∙ c.loop-i.invariant.1

pub returns-then-not-in_word : goal.returns-then-not-in_word
returns-then-not-in_word c = sym (part_stop _ _ c.requires.e_in_bounds _ c.loop-i-test.true (sym c.in_word.ensures ∙ c.if-not-in_word.true)) ∙ c.loop-i.invariant.1

pub loop-i-preserved : goal.loop-i-preserved
loop-i-preserved c = (omega arith, sym (part_step _ _ c.requires.e_in_bounds _ c.loop-i-test.true (sym c.in_word.ensures ∙ c.if-not-in_word.false)) ∙ c.loop-i.invariant.1)

pub returns : goal.returns
returns c = sym (part_end _ _ c.requires.e_in_bounds _ c.loop-i-test.false) ∙ c.loop-i.invariant.1
