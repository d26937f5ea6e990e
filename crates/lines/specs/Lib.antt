-- Lines of hexadecimal, in the order to read them: digits and bytes, lines of a stream, what a program says that answers each
-- line, the frames of a whole input, and examples. How long a line may be is a parameter, `longest`.
pub mod Hex
pub mod Lines
pub mod Talk
pub mod Frames
pub mod Worked
