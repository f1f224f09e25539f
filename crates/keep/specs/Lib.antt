-- What is kept: the definition that this crate adds to those of `states`.
pub mod Packs
