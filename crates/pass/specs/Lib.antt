-- A pass: the definitions that its contract cites.
pub mod Pass
