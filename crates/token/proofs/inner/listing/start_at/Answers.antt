use native.Mathlib.Omega.{arith}
use mathlib.Core.Path.{refl}
use Rattle.token.specs.Lists.{start_of}
use Rattle.token.specs.Table.{start}
use Rattle.token.proofs.Table.{number_is}
use Rattle.token.proofs.inner.listing.start_at.Goals as goal

pub returns : goal.returns
unfolding start
returns c = number_is _ _ c.requires start_of c.args.at 1 _ (omega arith) (λ t. refl) c.number_at.ensures.inside c.number_at.ensures.outside
