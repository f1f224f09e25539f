-- The cursor: the laws that its proofs and callers use.
pub mod Cursors
