use mathlib.Core.Path.{◌∙◌}
use borrow.Author.Rules.{rules}
use Rattle.vectors.proofs.Vectors.{sum_folds}
use Rattle.vectors.proofs.numbers_sum.Goals as goal

pub returns : goal.returns
returns c = search rules ∙ sum_folds 0 c.args.s.now
