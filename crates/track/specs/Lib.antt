-- What a move means in the paper's words.
pub mod Moves
