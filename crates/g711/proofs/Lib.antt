pub mod Kept
pub mod Read
pub mod Lengths
