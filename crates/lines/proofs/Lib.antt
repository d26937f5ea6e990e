-- Laws of a program that answers each line, and of the frames that it answers.
pub mod Talk
pub mod Frames
mod Worked
