use Rattle.numbers.specs.Numbers.{token_numbers}
use mathlib.Core.Path.{ap, ◌∙◌}
use Rattle.exports.proofs.flascjuvan_next_token.Goals as goal

pub returns : goal.returns
returns c = record { answered = c.listed_numbers.ensures ∙ ap token_numbers c.next_token-listed.ensures.numbers }
