-- The laws of the building pass.
pub mod Lays
pub mod Parts
pub mod Worths
pub mod Leaves
pub mod Loops
pub mod Chains
pub mod Terms
pub mod Rules
pub mod Nodes
pub mod Finishes
