-- The laws of lines and of the reader's phases, what a reading that succeeded has, and why one is refused.
pub mod Lines
pub mod Answers
pub mod Counts
pub mod Reasons
pub mod Editions
pub mod Good
pub mod Firsts
