-- Arithmetic at a width: the definitions that the contracts of this crate, and document 01's nodes, go by.
pub mod Width
