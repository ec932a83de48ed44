pub mod Private
pub mod View
