-- Calls as code: bytes, loops, and long packets.
pub mod Sounds
pub mod Loops
pub mod Writes
pub mod Quick
pub mod Leaps
