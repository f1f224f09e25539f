-- Calls as code: what it computes.
pub mod Shapes
pub mod Quick
