-- Laws of a run. A file cites files above it.
mod Steps
mod Whole
