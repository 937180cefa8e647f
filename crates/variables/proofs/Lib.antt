-- Laws of variables and joins. A file cites files above it.
mod Widths
mod Rules
pub mod Behind
mod Equations
mod Choices
