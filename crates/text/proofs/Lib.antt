-- Laws of writing a text.
pub mod Pieces
pub mod Decimals
