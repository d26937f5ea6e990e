-- Laws of the lent bytes: numbers that go no further than another (Numbers), what a store elsewhere leaves (Apart), and the pieces
-- that wait (Pieces).
pub mod Numbers
pub mod Apart
pub mod Pieces
