-- The cursor: the definitions that the contracts of this crate cite.
pub mod Cursors
