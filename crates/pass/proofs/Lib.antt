-- A pass: what its proof cites.
pub mod Answers
pub mod Demands
pub mod Samples
