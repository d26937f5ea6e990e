-- The definitions that the contracts of this crate are written with, besides document 01's.
pub mod Window
