pub mod Private
pub mod Repack
pub mod Written
