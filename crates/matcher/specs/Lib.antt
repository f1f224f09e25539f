-- Matching: the definitions that the contracts of this crate cite.
pub mod Match
pub mod Runs
pub mod Answers
pub mod Lines
pub mod Sought
