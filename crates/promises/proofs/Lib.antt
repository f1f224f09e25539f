-- The promises: theorems over the definitions of all layers.

-- from printed text to its tokens
pub mod Spelled
pub mod Values
pub mod Utf8
pub mod Tokens
pub mod Laid
pub mod Lays
pub mod Pushes
pub mod Aboves
-- from those tokens to the rules
pub mod Leaves
pub mod Shapes
pub mod Enough
pub mod Backs
pub mod Depths
pub mod Descent
pub mod Styles
pub mod Rules
pub mod Sinks
pub mod Text
-- from tables to tables
pub mod Spread
pub mod Narrow
pub mod Asides
pub mod Readings
pub mod Round
pub mod Deep
-- from a text to its printed text and back
pub mod Again
-- the short text
pub mod Needs
pub mod Least
pub mod Fewest
pub mod Counts
pub mod Bared
pub mod Pairs
pub mod Cuts
pub mod Short
pub mod Examples
-- the place of a 3, in a text and in packets
pub mod Places
pub mod Arrives
-- premises that can be met, the twelve examples, wrong programs
pub mod Opened
pub mod Sample
pub mod Programs
pub mod Witness
pub mod Twelve
pub mod Wrong
pub mod Editions
pub mod Matches
