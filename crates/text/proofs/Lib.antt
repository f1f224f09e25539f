-- The laws of this crate, for its own functions and for the crates above.
pub mod Booleans
pub mod Tests
pub mod Splices
pub mod Walks
pub mod Decodes
pub mod Encodes
pub mod Ascii
pub mod Gathers
pub mod Pairs
pub mod Ranges
pub mod Table
pub mod Tables
pub mod Runs
pub mod Decimals
pub mod Hexes
