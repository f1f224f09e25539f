use native.Mathlib.Omega.{arith}
use mathlib.Core.Path.{refl}
use Rattle.token.specs.Lists.{end_of}
use Rattle.token.specs.Table.{end}
use Rattle.token.proofs.Table.{number_is}
use Rattle.token.proofs.inner.listing.end_at.Goals as goal

pub returns : goal.returns
unfolding end
returns c = number_is _ _ c.requires end_of c.args.at 2 _ (omega arith) (λ t. refl) c.number_at.ensures.inside c.number_at.ensures.outside
