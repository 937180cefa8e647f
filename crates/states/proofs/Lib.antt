-- Laws of a state. A file cites files above it.
pub mod Leaves
pub mod Actions
