-- The C interface: what its proofs cite.
pub mod Levels
pub mod Feeds
