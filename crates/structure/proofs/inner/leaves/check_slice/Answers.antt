-- The tokens are wanted in the order of the definition (`slice`), and each way out has its law: no `..`, no `]`, and both there. Either number
-- may be absent; what they are worth doesn't matter, for a slice is one node without bytes.
use Rattle.structure.proofs.Leaves.{slice_undotted, slice_unclosed, slice_read}
use Rattle.structure.proofs.inner.leaves.check_slice.Goals as goal

pub returns-in_default : goal.returns-in_default
returns-in_default c = slice_undotted _ _ _ _ c.past_integer-from.ensures _ c.expect-dots.ensures c.in_default.is _ c.not_allowed.ensures

pub returns-in_default-close : goal.returns-in_default-close
returns-in_default-close c = slice_unclosed _ _ _ _ c.past_integer-from.ensures _ c.expect-dots.ensures _ c.in-Some.is _ c.past_integer-to.ensures _ c.expect-close.ensures c.in_default-close.is _ c.not_allowed-in_default-close.ensures

pub returns : goal.returns
returns c = slice_read _ _ _ _ c.past_integer-from.ensures _ c.expect-dots.ensures _ c.in-Some.is _ c.past_integer-to.ensures _ c.expect-close.ensures _ c.in-Some-close.is
