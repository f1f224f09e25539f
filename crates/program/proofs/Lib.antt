-- Programs: the laws that their proofs cite.
pub mod Inputs
