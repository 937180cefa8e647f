-- What the contracts of writing a text cite.
pub mod Adds
