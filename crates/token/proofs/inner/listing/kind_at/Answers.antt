use native.Mathlib.Omega.{arith}
use mathlib.Core.Path.{refl}
use Rattle.token.specs.Lists.{kind_of}
use Rattle.token.specs.Table.{kind}
use Rattle.token.proofs.Table.{number_is, known}
use Rattle.token.proofs.inner.listing.kind_at.Goals as goal

pub overflow_cast-result : goal.overflow_cast-result
unfolding kind
overflow_cast-result c =
    let e = number_is _ _ c.requires kind_of c.args.at 0 _ (omega arith) (λ t. refl) c.number_at.ensures.inside c.number_at.ensures.outside in
    omega (arith, known c.args.text.now c.args.at)

pub returns : goal.returns
unfolding kind
returns c = number_is _ _ c.requires kind_of c.args.at 0 _ (omega arith) (λ t. refl) c.number_at.ensures.inside c.number_at.ensures.outside
