-- Lines that programs write: the definitions that the contracts cite.
pub mod Put
pub mod Line
pub mod Rows
pub mod Block
pub mod Tokens
