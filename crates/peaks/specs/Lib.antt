pub mod Miss
