-- What it is for a promise to decide a call.
pub mod Decides
