-- What this crate's answers say of an open line. Lines themselves are those of `lines`.
pub mod Open
