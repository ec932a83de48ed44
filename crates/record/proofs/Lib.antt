pub mod Coincide
pub mod Formed
