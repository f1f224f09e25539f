-- Building: the definitions that the contracts of this crate cite.
pub mod Build
pub mod Rules
