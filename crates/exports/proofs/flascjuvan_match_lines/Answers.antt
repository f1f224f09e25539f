use mathlib.Core.Path.{ap, ◌∙◌}
use Rattle.replies.specs.Replies.{tallied}
use Rattle.numbers.specs.Numbers.{tally_numbers}
use Rattle.exports.proofs.flascjuvan_match_lines.Goals as goal

pub returns : goal.returns
returns c = record {
  answered = c.tally_numbers.ensures ∙ ap tally_numbers (c.tally_of.ensures ∙ ap tallied c.match_lines-lines.ensures.value);
  written = c.match_lines-lines.ensures.records_after;
}
