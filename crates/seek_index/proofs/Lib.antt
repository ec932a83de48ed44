pub mod After
pub mod Before
pub mod Bytes
pub mod Kept
pub mod Lengths
pub mod Listed
pub mod Theorems
pub mod Turn
