-- What the enums of this crate mean.
pub mod Meaning
