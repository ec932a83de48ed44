pub mod Bits
pub mod Clamp
pub mod Lists
pub mod Outcome
