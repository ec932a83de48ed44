pub mod Coincide
pub mod Read
