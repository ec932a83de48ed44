pub mod Coincide
pub mod Room
