-- Laws of the record file. A file cites files above it.
mod Marks
mod Reading
mod Records
mod Faults
mod Copied
mod Contents
mod Blocks
mod Answered
pub mod Unique
