-- What the code's kinds of frame mean.
pub mod Meaning
