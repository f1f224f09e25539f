-- What is known of a store once: the definitions that the contracts of this crate cite.
pub mod Stops
pub mod Runs
