pub mod Series
pub mod Step
pub mod Table
