-- The values of characters.
pub mod Valued
