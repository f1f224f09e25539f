-- The reader: the definitions that the contracts of this crate cite.
pub mod Read
pub mod Lines
