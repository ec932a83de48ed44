pub mod Decode
pub mod Loss
pub mod Repack
pub mod Told
pub mod Version
