-- Laws of the passifier. A file cites files above it.
mod Formed
pub mod Unique
