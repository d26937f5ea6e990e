-- What is to come of a chunk, done.
pub mod Served
