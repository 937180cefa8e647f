-- Laws of the forms. A file cites files above it.
mod Writes
mod Steps
