pub mod Block
pub mod Call
pub mod Header
pub mod Run
