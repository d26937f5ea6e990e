-- Laws of the definitions of `lines` that this crate's proofs, and a caller's, cite.
pub mod HexLines
