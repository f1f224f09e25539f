-- The table's rows in the words of the code.
pub mod Turns
