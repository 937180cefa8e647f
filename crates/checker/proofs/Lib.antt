-- Laws of the checker. A file cites files above it.
pub mod Passed
pub mod Sorts
pub mod Judged
pub mod Unique
