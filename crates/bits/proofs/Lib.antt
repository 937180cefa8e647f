-- Laws of the operations at a width, for the crates above.
pub mod Widths
