-- The text is measured against one byte more than there is: if nothing is left it is too long, else it fits and is written from 0 on (`wrote_front`).
use native.Mathlib.Omega.{arith}
use mathlib.Core.Path.{refl}
use Rattle.text.proofs.Splices.{wrote_front}
use Rattle.printer.specs.Answers.{print_in}
use Rattle.printer.proofs.Answers.{room_fits, answer_no_room, answer_used}
use borrow.Author.Rules.{rules}
use Rattle.printer.proofs.inner.walks.print_measured.Goals as goal

pub returns-then-measure_rules-eq0 : goal.returns-then-measure_rules-eq0
unfolding print_in
returns-then-measure_rules-eq0 c = record {
  value = answer_no_room _ _ c.measure_rules.ensures c.if-measure_rules-eq0.true;
  out_after = refl;
}

pub print_fitting-requires : goal.print_fitting-requires
print_fitting-requires c =
    let f = room_fits _ _ c.measure_rules.ensures c.if-measure_rules-eq0.false in
    record {
      valid = search rules;
      room = record { fits = omega (arith, f) };
    }

pub returns : goal.returns
unfolding print_in
returns c =
    let w = wrote_front c.print_fitting.ensures (room_fits _ _ c.measure_rules.ensures c.if-measure_rules-eq0.false) in
    record {
      value = answer_used _ _ c.measure_rules.ensures c.if-measure_rules-eq0.false w.1;
      out_after = w.0;
    }
