-- Laws of digits and bytes.
pub mod HexDigits
