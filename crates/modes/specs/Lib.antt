-- What the modes of this crate stand for, and the number that a mode with its lock is.
pub mod Meaning
