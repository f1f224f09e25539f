use Rattle.token.proofs.Table.{count_is}
use Rattle.token.proofs.inner.listing.token_count.Goals as goal

pub returns : goal.returns
returns c = count_is _ _ c.requires
