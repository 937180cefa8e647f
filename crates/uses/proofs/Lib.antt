-- Laws that the proofs of the functions share.
pub mod There
pub mod Counts
pub mod Owners
pub mod Placed
