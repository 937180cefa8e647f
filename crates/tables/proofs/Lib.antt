-- Laws of lookups. A file cites files above it.
pub mod Fitting
pub mod Order
pub mod Scan
pub mod Rest
