pub mod Numbers
pub mod Coincide
pub mod Done
pub mod Hears
