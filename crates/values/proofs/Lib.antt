-- Laws that the proofs of the functions, and the crates above, share.
pub mod Ready
pub mod Trees
pub mod Others
pub mod Fits
pub mod Nodes
