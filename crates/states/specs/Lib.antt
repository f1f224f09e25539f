-- Texts that arrive: the table of states, UTF-8's beside it, states in numbers, and calls.
pub mod Machine
pub mod Utf
pub mod Keep
pub mod Free
pub mod Steps
pub mod Feed
pub mod Packets
