use Rattle.numbers.specs.Numbers.{print_numbers}
use Rattle.printer.specs.Answers.{print_in}
use mathlib.Core.Path.{ap, ◌∙◌}
use Rattle.exports.proofs.print_styled.Goals as goal

pub returns : goal.returns
returns c = record {
  answered = c.printed_numbers.ensures ∙ ap print_numbers c.print-printed.ensures.result_value;
  written = c.print-printed.ensures.out_after ∙ ap (print_in _ _ _ _ _) c.print-printed.ensures.value;
}
