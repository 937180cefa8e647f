pub mod Variables
pub mod Sides
pub mod Joined
