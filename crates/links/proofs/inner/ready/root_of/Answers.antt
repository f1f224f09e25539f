use Rattle.links.proofs.Naming.{head_root}
use Rattle.links.proofs.inner.ready.root_of.Goals as goal

pub returns : goal.returns
returns c = head_root _ _ _ c.head_at.ensures
