-- The laws of texts and of their parts, for this crate's own functions and for the crates above.
pub mod Displays
pub mod Shown
pub mod Levels
pub mod Spans
pub mod Rows
pub mod Measures
pub mod Leaves
