-- The table as code: what it computes.
pub mod Shapes
