pub mod Headers
pub mod Refused
