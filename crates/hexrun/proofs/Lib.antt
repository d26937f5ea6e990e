-- Laws of digits read straight from a chunk.
pub mod Runs
