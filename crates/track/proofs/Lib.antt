-- The laws of a move, case by case, and that they leave one outcome.
pub mod RightMoves
pub mod Only
