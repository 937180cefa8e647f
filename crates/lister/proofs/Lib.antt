-- Laws of the listing.
mod Written
mod Told
pub mod Cut
pub mod Unique
