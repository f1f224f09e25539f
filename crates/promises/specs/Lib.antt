-- The promises: the definitions that the theorems of this crate cite.
pub mod Open
pub mod Pieces
pub mod Styled
pub mod Round
pub mod Marked
pub mod Fewest
pub mod Pairs
pub mod Programs
pub mod Twelve
pub mod Witness
