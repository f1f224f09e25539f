-- The laws of matching.
pub mod Leaves
pub mod Visits
pub mod Arms
pub mod Exact
pub mod Rows
pub mod Blocks
pub mod Answering
pub mod Sought
pub mod Counted
pub mod Whole
pub mod Endless
