pub mod Twice
pub mod View
pub mod Encoding
