use mathlib.Core.Path.{ap, ◌∙◌}
use Rattle.replies.specs.Replies.{finding}
use Rattle.numbers.specs.Numbers.{finding_numbers}
use Rattle.exports.proofs.flascjuvan_rule_named.Goals as goal

pub returns : goal.returns
returns c = record { answered = c.finding_numbers.ensures ∙ ap finding_numbers (c.finding_of.ensures ∙ ap finding c.rule_named-found.ensures) }
