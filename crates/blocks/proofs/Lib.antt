-- Laws of the block's readers, and of blocks that Check accepts.
pub mod Parts
pub mod Accepted
