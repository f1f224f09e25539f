-- The program for texts that arrive: what its proofs cite.
pub mod Puts
