-- Laws of stops, and of parts cut from a store.
pub mod Cuts
pub mod Stops
pub mod Runs
