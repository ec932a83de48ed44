pub mod Kept
pub mod Places
pub mod Theorems
