-- What is read straight from a chunk.
pub mod Reading
