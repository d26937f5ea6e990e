-- Laws of lent bytes, the controller's or the reader's: lists that agree on some bytes (Same), and the mark in front (Fitting).
pub mod Same
pub mod Fitting
