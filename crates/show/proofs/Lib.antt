-- What programs do with a layout: what the proofs cite.
pub mod Fronts
pub mod Answers
pub mod Shows
pub mod Layouts
pub mod Prints
