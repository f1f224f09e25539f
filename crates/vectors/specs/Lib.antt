-- Lines of test vectors.
pub mod Vectors
pub mod Buffers
