-- The texts of trees: the definitions that the contracts of this crate and of the printer cite.
pub mod Printing
pub mod Levels
pub mod Display
