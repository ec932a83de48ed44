pub mod Block
pub mod Call
pub mod Header
pub mod Readings
pub mod Sizes
pub mod Weave
