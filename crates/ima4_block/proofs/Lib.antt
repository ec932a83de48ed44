pub mod Bare
pub mod Cut
pub mod Kept
pub mod Lengths
pub mod Ran
pub mod Round
pub mod Theorems
pub mod Turn
