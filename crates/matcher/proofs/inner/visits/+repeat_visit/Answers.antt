use Rattle.matcher.proofs.Arms.{leads_to, any_is, call_is, choice_matched, choice_missed, choice_over, held_first, held_next, neg_matched, neg_missed, neg_over, no_depth, no_step, pos_matched, pos_missed, pos_over, range_is, repeat_is, round_enough, round_full, round_less, round_more, round_none, round_over, round_short, seq_matched, seq_missed, seq_over, text_is, unfit_is}
use native.Mathlib.Omega.{arith}
use mathlib.Core.Path.{refl, sym, ◌∙◌}
use Rattle.matcher.proofs.inner.visits.+repeat_visit.Goals as goal

pub repeat-loop-most-init : goal.repeat-loop-most-init
repeat-loop-most-init t c = round_none

pub repeat-returns-then-is_full : goal.repeat-returns-then-is_full
repeat-returns-then-is_full t c = round_full c.loop-most.invariant c.is_full.ensures c.if-is_full.true

pub repeat-visit-x-requires : goal.repeat-visit-x-requires
repeat-visit-x-requires t c = (omega arith, (c.requires.runnable, c.requires.c_bound))

pub repeat-overflow_add-n : goal.repeat-overflow_add-n
repeat-overflow_add-n t c = omega (arith, c.loop-most.invariant.few, round_less c.loop-most.invariant c.is_full.ensures c.if-is_full.false c.visit-x.ensures c.in-Matched.is)

pub repeat-loop-most-smaller : goal.repeat-loop-most-smaller
repeat-loop-most-smaller t c = round_less c.loop-most.invariant c.is_full.ensures c.if-is_full.false c.visit-x.ensures c.in-Matched.is

pub repeat-loop-most-preserved : goal.repeat-loop-most-preserved
repeat-loop-most-preserved t c = round_more c.loop-most.invariant c.is_full.ensures c.if-is_full.false c.visit-x.ensures c.in-Matched.is

pub repeat-returns-then-from-n : goal.repeat-returns-then-from-n
repeat-returns-then-from-n t c = round_enough c.loop-most.invariant c.is_full.ensures c.if-is_full.false c.visit-x.ensures c.in-Missed.is (omega (arith, c.from.ensures, c.if-from-n.true))

pub repeat-returns-in-Missed : goal.repeat-returns-in-Missed
repeat-returns-in-Missed t c = round_short c.loop-most.invariant c.is_full.ensures c.if-is_full.false c.visit-x.ensures c.in-Missed.is (omega (arith, c.from.ensures, c.if-from-n.false))

pub repeat-returns-in-Over : goal.repeat-returns-in-Over
repeat-returns-in-Over t c = round_over c.loop-most.invariant c.is_full.ensures c.if-is_full.false c.visit-x.ensures c.in-Over.is

pub visit-loop-deep-init : goal.visit-loop-deep-init
visit-loop-deep-init t c = held_first c.requires.start_bound

pub visit-returns-then-deep-eq0 : goal.visit-returns-then-deep-eq0
visit-returns-then-deep-eq0 t c = no_depth _ _ _ _ _ _ _ _ c.if-deep-eq0.true ∙ sym c.loop-deep.invariant.same

pub visit-returns-then-left-eq0 : goal.visit-returns-then-left-eq0
visit-returns-then-left-eq0 t c = no_step _ _ _ _ _ _ _ _ c.if-left-eq0.true ∙ sym c.loop-deep.invariant.same

pub visit-linked_at-act-requires : goal.visit-linked_at-act-requires
visit-linked_at-act-requires t c = record {
  i_bound = c.loop-deep.invariant.inside_is;
  i_lt_max_nodes = omega (arith, c.loop-deep.invariant.inside_is, c.requires.runnable.few);
}

pub visit-text_at-requires : goal.visit-text_at-requires
visit-text_at-requires t c = leads_to _ _ _ _ c.requires.runnable c.loop-deep.invariant.inside_is c.linked_at-act.ensures c.in-Text.is

pub visit-returns-in-Text : goal.visit-returns-in-Text
visit-returns-in-Text t c = text_is _ _ _ _ _ _ _ _ c.if-deep-eq0.false c.if-left-eq0.false c.linked_at-act.ensures c.in-Text.is c.text_at.ensures ∙ sym c.loop-deep.invariant.same

pub visit-returns-in-Range : goal.visit-returns-in-Range
visit-returns-in-Range t c = range_is _ _ _ _ _ _ _ _ c.if-deep-eq0.false c.if-left-eq0.false c.linked_at-act.ensures c.in-Range.is c.range_at.ensures ∙ sym c.loop-deep.invariant.same

pub visit-returns-in-Any : goal.visit-returns-in-Any
visit-returns-in-Any t c = any_is _ _ _ _ _ _ _ _ c.if-deep-eq0.false c.if-left-eq0.false c.linked_at-act.ensures c.in-Any.is c.any_at.ensures ∙ sym c.loop-deep.invariant.same

pub visit-loop-deep-smaller-in-Call : goal.visit-loop-deep-smaller-in-Call
visit-loop-deep-smaller-in-Call t c = omega (arith, c.if-deep-eq0.false)

pub visit-loop-deep-preserved-in-Call : goal.visit-loop-deep-preserved-in-Call
visit-loop-deep-preserved-in-Call t c = held_next _ _ _ c.loop-deep.invariant (leads_to _ _ _ _ c.requires.runnable c.loop-deep.invariant.inside_is c.linked_at-act.ensures c.in-Call.is) (call_is _ _ _ _ _ _ _ _ c.if-deep-eq0.false c.if-left-eq0.false c.linked_at-act.ensures c.in-Call.is refl)

pub visit-visit-x-requires : goal.visit-visit-x-requires
visit-visit-x-requires t c = (omega (arith, c.if-deep-eq0.false, c.loop-deep.invariant.low), (c.requires.runnable, leads_to _ _ _ _ c.requires.runnable c.loop-deep.invariant.inside_is c.linked_at-act.ensures c.in-PosPred.is))

pub visit-returns-in-Matched : goal.visit-returns-in-Matched
visit-returns-in-Matched t c = pos_matched _ _ _ _ _ _ _ _ c.if-deep-eq0.false c.if-left-eq0.false c.linked_at-act.ensures c.in-PosPred.is c.visit-x.ensures c.in-Matched.is ∙ sym c.loop-deep.invariant.same

pub visit-returns-in-Missed : goal.visit-returns-in-Missed
visit-returns-in-Missed t c = pos_missed _ _ _ _ _ _ _ _ c.if-deep-eq0.false c.if-left-eq0.false c.linked_at-act.ensures c.in-PosPred.is c.visit-x.ensures c.in-Missed.is ∙ sym c.loop-deep.invariant.same

pub visit-returns-in-Over : goal.visit-returns-in-Over
visit-returns-in-Over t c = pos_over _ _ _ _ _ _ _ _ c.if-deep-eq0.false c.if-left-eq0.false c.linked_at-act.ensures c.in-PosPred.is c.visit-x.ensures c.in-Over.is ∙ sym c.loop-deep.invariant.same

pub visit-visit-x-requires-in-NegPred : goal.visit-visit-x-requires-in-NegPred
visit-visit-x-requires-in-NegPred t c = (omega (arith, c.if-deep-eq0.false, c.loop-deep.invariant.low), (c.requires.runnable, leads_to _ _ _ _ c.requires.runnable c.loop-deep.invariant.inside_is c.linked_at-act.ensures c.in-NegPred.is))

pub visit-returns-in-Matched-x : goal.visit-returns-in-Matched-x
visit-returns-in-Matched-x t c = neg_matched _ _ _ _ _ _ _ _ c.if-deep-eq0.false c.if-left-eq0.false c.linked_at-act.ensures c.in-NegPred.is c.visit-x-in-NegPred.ensures c.in-Matched-x.is ∙ sym c.loop-deep.invariant.same

pub visit-returns-in-Missed-x : goal.visit-returns-in-Missed-x
visit-returns-in-Missed-x t c = neg_missed _ _ _ _ _ _ _ _ c.if-deep-eq0.false c.if-left-eq0.false c.linked_at-act.ensures c.in-NegPred.is c.visit-x-in-NegPred.ensures c.in-Missed-x.is ∙ sym c.loop-deep.invariant.same

pub visit-returns-in-Over-x : goal.visit-returns-in-Over-x
visit-returns-in-Over-x t c = neg_over _ _ _ _ _ _ _ _ c.if-deep-eq0.false c.if-left-eq0.false c.linked_at-act.ensures c.in-NegPred.is c.visit-x-in-NegPred.ensures c.in-Over-x.is ∙ sym c.loop-deep.invariant.same

pub visit-visit-x-requires-in-Seq : goal.visit-visit-x-requires-in-Seq
visit-visit-x-requires-in-Seq t c = (omega (arith, c.if-deep-eq0.false, c.loop-deep.invariant.low), (c.requires.runnable, (leads_to _ _ _ _ c.requires.runnable c.loop-deep.invariant.inside_is c.linked_at-act.ensures c.in-Seq.is).0))

pub visit-loop-deep-smaller-in-Matched-x-2 : goal.visit-loop-deep-smaller-in-Matched-x-2
visit-loop-deep-smaller-in-Matched-x-2 t c = omega (arith, c.if-deep-eq0.false)

pub visit-loop-deep-preserved-in-Matched-x-2 : goal.visit-loop-deep-preserved-in-Matched-x-2
visit-loop-deep-preserved-in-Matched-x-2 t c = held_next _ _ _ c.loop-deep.invariant (leads_to _ _ _ _ c.requires.runnable c.loop-deep.invariant.inside_is c.linked_at-act.ensures c.in-Seq.is).1 (seq_matched _ _ _ _ _ _ _ _ c.if-deep-eq0.false c.if-left-eq0.false c.linked_at-act.ensures c.in-Seq.is c.visit-x-in-Seq.ensures c.in-Matched-x-2.is refl)

pub visit-returns-in-Missed-x-2 : goal.visit-returns-in-Missed-x-2
visit-returns-in-Missed-x-2 t c = seq_missed _ _ _ _ _ _ _ _ c.if-deep-eq0.false c.if-left-eq0.false c.linked_at-act.ensures c.in-Seq.is c.visit-x-in-Seq.ensures c.in-Missed-x-2.is ∙ sym c.loop-deep.invariant.same

pub visit-returns-in-Over-x-2 : goal.visit-returns-in-Over-x-2
visit-returns-in-Over-x-2 t c = seq_over _ _ _ _ _ _ _ _ c.if-deep-eq0.false c.if-left-eq0.false c.linked_at-act.ensures c.in-Seq.is c.visit-x-in-Seq.ensures c.in-Over-x-2.is ∙ sym c.loop-deep.invariant.same

pub visit-visit-x-requires-in-Choice : goal.visit-visit-x-requires-in-Choice
visit-visit-x-requires-in-Choice t c = (omega (arith, c.if-deep-eq0.false, c.loop-deep.invariant.low), (c.requires.runnable, (leads_to _ _ _ _ c.requires.runnable c.loop-deep.invariant.inside_is c.linked_at-act.ensures c.in-Choice.is).0))

pub visit-returns-in-Matched-x-3 : goal.visit-returns-in-Matched-x-3
visit-returns-in-Matched-x-3 t c = choice_matched _ _ _ _ _ _ _ _ c.if-deep-eq0.false c.if-left-eq0.false c.linked_at-act.ensures c.in-Choice.is c.visit-x-in-Choice.ensures c.in-Matched-x-3.is ∙ sym c.loop-deep.invariant.same

pub visit-loop-deep-smaller : goal.visit-loop-deep-smaller
visit-loop-deep-smaller t c = omega (arith, c.if-deep-eq0.false)

pub visit-loop-deep-preserved : goal.visit-loop-deep-preserved
visit-loop-deep-preserved t c = held_next _ _ _ c.loop-deep.invariant (leads_to _ _ _ _ c.requires.runnable c.loop-deep.invariant.inside_is c.linked_at-act.ensures c.in-Choice.is).1 (choice_missed _ _ _ _ _ _ _ _ c.if-deep-eq0.false c.if-left-eq0.false c.linked_at-act.ensures c.in-Choice.is c.visit-x-in-Choice.ensures c.in-Missed-x-3.is refl)

pub visit-returns-in-Over-x-3 : goal.visit-returns-in-Over-x-3
visit-returns-in-Over-x-3 t c = choice_over _ _ _ _ _ _ _ _ c.if-deep-eq0.false c.if-left-eq0.false c.linked_at-act.ensures c.in-Choice.is c.visit-x-in-Choice.ensures c.in-Over-x-3.is ∙ sym c.loop-deep.invariant.same

pub visit-repeat-requires : goal.visit-repeat-requires
visit-repeat-requires t c = (omega (arith, c.if-deep-eq0.false, c.loop-deep.invariant.low), (c.requires.runnable, leads_to _ _ _ _ c.requires.runnable c.loop-deep.invariant.inside_is c.linked_at-act.ensures c.in-Repeat.is))

pub visit-returns-in-Repeat : goal.visit-returns-in-Repeat
visit-returns-in-Repeat t c = repeat_is _ _ _ _ _ _ _ _ c.if-deep-eq0.false c.if-left-eq0.false c.linked_at-act.ensures c.in-Repeat.is c.repeat.ensures ∙ sym c.loop-deep.invariant.same

pub visit-returns-in-Unfit : goal.visit-returns-in-Unfit
visit-returns-in-Unfit t c = unfit_is _ _ _ _ _ _ _ _ c.if-deep-eq0.false c.if-left-eq0.false c.linked_at-act.ensures c.in-Unfit.is ∙ sym c.loop-deep.invariant.same
