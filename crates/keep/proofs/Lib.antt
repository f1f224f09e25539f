-- The law that the codes of states need.
pub mod Codes
