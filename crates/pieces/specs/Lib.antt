pub mod Pieces
pub mod Sound
