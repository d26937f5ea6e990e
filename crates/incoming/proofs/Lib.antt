-- What is answered at the end of the input.
pub mod Arriving
