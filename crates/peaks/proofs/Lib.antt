pub mod Largest
pub mod Nibbles
pub mod Ima4
pub mod Ms
pub mod Theorems
