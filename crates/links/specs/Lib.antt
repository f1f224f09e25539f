-- Links: the definitions that the contracts of this crate cite.
pub mod Program
pub mod Ready
