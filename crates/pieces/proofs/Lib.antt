-- Laws of pieces. A file cites files above it.
pub mod Pieces
pub mod Expressions
pub mod Accepted
