-- What the mode rule comes to on the lent bytes.
pub mod Rule
