pub mod Bits
pub mod Lists
pub mod Outcome
pub mod Shift
pub mod Signed
pub mod Tests
pub mod Within
