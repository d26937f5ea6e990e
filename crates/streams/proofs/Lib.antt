-- The laws of this crate that no function is named for.
pub mod Numbers
