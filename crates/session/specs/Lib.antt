-- What the library of both programs promises of a chunk.
pub mod Turns
