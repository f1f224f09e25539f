-- The tokens are wanted in the order of the definition (`to_most`), and each way out has its law: no number, no `}`, and both there.
use Rattle.structure.proofs.Leaves.{most_bare, most_unclosed, most_closed}
use Rattle.structure.proofs.inner.leaves.most_end.Goals as goal

pub returns-in_default : goal.returns-in_default
returns-in_default c = most_bare _ _ _ c.expect-most.ensures c.in_default.is _ c.not_allowed.ensures

pub returns-in_default-close : goal.returns-in_default-close
returns-in_default-close c = most_unclosed _ _ _ c.expect-most.ensures _ c.in-Some.is _ c.expect-close.ensures c.in_default-close.is _ c.not_allowed-in_default-close.ensures

pub returns : goal.returns
returns c = most_closed _ _ _ c.expect-most.ensures _ c.in-Some.is _ c.expect-close.ensures _ c.in-Some-close.is
