-- Trees, tables, and what makes a table false: the definitions that the contracts of this crate cite.
pub mod Tree
pub mod Regroup
pub mod Record
pub mod Flat
pub mod Check
pub mod Heavy
pub mod Children
pub mod Characters
pub mod Names
