-- Bytes and characters: the definitions that the contracts of this crate cite.
pub mod Booleans
pub mod Splice
pub mod Scans
pub mod Utf8
pub mod Classes
pub mod Words
pub mod Digits
pub mod Limits
