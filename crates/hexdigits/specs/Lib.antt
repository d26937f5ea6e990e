-- What this crate's answers say of the buffers that are lent with a call. Digits themselves are those of `lines`.
pub mod Decodes
