-- The bad sequence comes first; then the visit of the root decides, with the steps that it left.
use native.Mathlib.Omega.{arith}
use Rattle.matcher.proofs.Answering.{line_bad, line_matched, line_missed, line_over, matched_under, missed_under}
use Rattle.matcher.proofs.inner.visits.run_line.Goals as goal

pub returns-in-Some : goal.returns-in-Some
returns-in-Some c = line_bad _ _ _ _ _ c.first_bad-bad.ensures c.in-Some.is

pub visit-x-requires : goal.visit-x-requires
visit-x-requires c = record {
  runnable = c.requires.runnable;
  start_bound = c.requires.root_bound;
}

pub overflow_sub-result : goal.overflow_sub-result
overflow_sub-result c = omega (arith, matched_under _ _ _ _ _ _ _ c.visit-x.ensures c.in-Matched.is)

pub overflow_sub-result-in-Missed : goal.overflow_sub-result-in-Missed
overflow_sub-result-in-Missed c = omega (arith, missed_under _ _ _ _ _ _ _ c.visit-x.ensures c.in-Missed.is)

pub returns-in-Matched : goal.returns-in-Matched
returns-in-Matched c = line_matched _ _ _ _ _ c.first_bad-bad.ensures c.in_default.is c.visit-x.ensures c.in-Matched.is

pub returns-in-Missed : goal.returns-in-Missed
returns-in-Missed c = line_missed _ _ _ _ _ c.first_bad-bad.ensures c.in_default.is c.visit-x.ensures c.in-Missed.is

pub returns-in-Over : goal.returns-in-Over
returns-in-Over c = line_over _ _ _ _ _ c.first_bad-bad.ensures c.in_default.is c.visit-x.ensures c.in-Over.is
