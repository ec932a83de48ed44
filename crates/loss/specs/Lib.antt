pub mod Loss
pub mod Private
