-- The laws of names and of tables that can be run.
pub mod Naming
pub mod Asked
