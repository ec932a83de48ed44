pub mod View
pub mod Narrow
