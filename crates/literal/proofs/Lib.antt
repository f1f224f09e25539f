-- The laws of this crate, for its own functions and for the crates above.
pub mod Hexes
pub mod Turns
pub mod Escaped
pub mod Printed
pub mod Answers
pub mod Pieces
pub mod Stands
pub mod Back
pub mod Meanings
