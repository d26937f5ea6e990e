-- The definitions that the contracts of this crate are written with.
pub mod Wire
