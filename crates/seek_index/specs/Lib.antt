pub mod Call
pub mod Private
pub mod Record
