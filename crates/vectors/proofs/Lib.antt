-- Lines of test vectors: what the proofs cite.
pub mod Vectors
pub mod Buffers
