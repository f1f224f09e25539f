use lib.ListN.{drop}
use mathlib.Core.Path.{◌∙◌}
use Rattle.vectors.proofs.Vectors.{alone_counts}
use Rattle.vectors.proofs.bytes_alone.Goals as goal

pub returns : goal.returns
returns c = c.alone.ensures ∙ alone_counts _ (drop c.args.from c.args.s.now)
