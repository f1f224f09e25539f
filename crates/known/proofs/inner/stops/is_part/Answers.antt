use native.Mathlib.Omega.{arith}
use mathlib.Core.Path.{sym, refl, ap, ◌∙◌}
use Rattle.known.specs.Stops.{ends_at}
use Rattle.text.proofs.Decodes.{decoded}
use Rattle.known.proofs.Stops.{part_step, part_bad, part_cut, part_end, part_ends, stop_between}
use Rattle.known.proofs.inner.stops.is_part.Goals as goal

pub loop-i-init : goal.loop-i-init
loop-i-init c = (c.requires.p_le_e, refl)

pub bounds-stops-i : goal.bounds-stops-i
bounds-stops-i c = omega (arith, c.requires.store_len_bound)

pub ends-requires : goal.ends-requires
ends-requires c = omega (arith, c.requires.stops.at c.loop-i.i (omega arith) c.if-i-lt4.true, (stop_between c.args.store.now c.loop-i.i (omega arith)).1)

pub returns-then-i-lt4 : goal.returns-then-i-lt4
returns-then-i-lt4 c = c.ends.ensures ∙ ap (λ x. ends_at c.args.store.now x c.args.e) (c.requires.stops.at c.loop-i.i (omega arith) c.if-i-lt4.true) ∙ sym (part_ends _ _ c.requires.e_in_bounds _ c.loop-i-test.true) ∙ c.loop-i.invariant.1

pub returns-then-e-i : goal.returns-then-e-i
returns-then-e-i c = sym (part_cut _ _ _ c.requires.e_in_bounds _ _ c.loop-i-test.true (sym c.char_at-sequence.ensures ∙ c.in-Some.is) c.if-e-i.true) ∙ c.loop-i.invariant.1

pub loop-i-smaller : goal.loop-i-smaller
loop-i-smaller c = let d = decoded _ _ _ (sym c.char_at-sequence.ensures ∙ c.in-Some.is) in omega (arith, d.some)

pub loop-i-preserved : goal.loop-i-preserved
loop-i-preserved c = (omega arith, sym (part_step _ _ _ c.requires.e_in_bounds _ _ c.loop-i-test.true (sym c.char_at-sequence.ensures ∙ c.in-Some.is) c.if-e-i.false) ∙ c.loop-i.invariant.1)

pub returns-in-None : goal.returns-in-None
returns-in-None c = sym (part_bad _ _ _ c.requires.e_in_bounds c.loop-i-test.true (sym c.char_at-sequence.ensures ∙ c.in-None.is)) ∙ c.loop-i.invariant.1

pub returns : goal.returns
returns c = sym (part_end _ _ _ c.requires.e_in_bounds c.loop-i-test.false) ∙ c.loop-i.invariant.1
