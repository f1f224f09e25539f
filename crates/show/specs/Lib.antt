-- What programs do with a layout: the definitions that the contracts cite.
pub mod Shown
pub mod Desk
pub mod Layout
