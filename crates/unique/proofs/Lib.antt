-- Uniqueness, for every entry point.
pub mod Unique
