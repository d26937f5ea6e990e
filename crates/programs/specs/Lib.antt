-- What programs bench and reader write: each for a frame, then both for an input; and what that is in document 01's words, with examples.
pub mod Bench
pub mod Reader
pub mod Programs
pub mod Says
pub mod Worked
