-- What is found of a line.
pub mod Found
