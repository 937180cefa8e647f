pub mod Counts
pub mod Owners
