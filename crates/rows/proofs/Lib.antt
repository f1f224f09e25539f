-- Lines that programs write: what the proofs cite.
pub mod Records
pub mod Blocks
pub mod Listings
