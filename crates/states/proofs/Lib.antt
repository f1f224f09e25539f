-- The table finds the tokens of the whole text, each fault waits for its byte, and packets change nothing of either.

-- the table
pub mod From
pub mod Left
pub mod Rows
pub mod Strs
pub mod Sequences
pub mod Chars
pub mod Words
pub mod Pushes
pub mod Main
pub mod Fits
pub mod Small
pub mod Back
pub mod Bytes
pub mod Waits
pub mod Utfs
-- packets and calls
pub mod Runs
pub mod Keeps
pub mod Known
pub mod Shown
pub mod Packets
pub mod Cuts
pub mod Ends
pub mod Promises
pub mod Numbers
pub mod Calls
pub mod OneList
-- examples, wrong programs
pub mod Examples
pub mod Wrong
