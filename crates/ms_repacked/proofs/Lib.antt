pub mod Midway
pub mod Settled
pub mod Theorems
pub mod Unlike
pub mod Written
