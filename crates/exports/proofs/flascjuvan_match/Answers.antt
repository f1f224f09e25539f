use mathlib.Core.Path.{ap, ◌∙◌}
use Rattle.matcher.specs.Lines.{fields}
use Rattle.replies.specs.Replies.{numbered}
use Rattle.exports.proofs.flascjuvan_match.Goals as goal

pub returns : goal.returns
returns c = record { answered = c.row_numbers.ensures ∙ ap fields (c.row_of-row.ensures ∙ ap numbered c.match_line.ensures) }
