-- Tokens: the definitions that the contracts of this crate cite.
pub mod Blanks
pub mod Tokens
pub mod Lists
pub mod Table
pub mod Lister
pub mod Faults
