-- Records: the laws of its writers.
pub mod Patches
