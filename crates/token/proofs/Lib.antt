-- Tokens: the laws that callers use.
pub mod Runs
pub mod Comments
pub mod Places
pub mod Bounds
pub mod Strings
pub mod Lists
pub mod Table
pub mod Fills
pub mod Lister
pub mod Faults
pub mod Printed
