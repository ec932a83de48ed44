pub mod Coincide
pub mod Write
