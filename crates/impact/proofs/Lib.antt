-- The laws of this crate that no function is named for.
pub mod Readings
pub mod Comparisons
