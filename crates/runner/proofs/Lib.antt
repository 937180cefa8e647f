-- Laws of the calls. A file cites files above it.
mod Started
mod Answered
pub mod Unique
