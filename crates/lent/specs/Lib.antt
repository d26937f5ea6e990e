-- What is said alike of lent bytes, the controller's or the reader's: the mark in front (Fitting), what a call comes to (Told), and
-- calls one after the other (Calls).
pub mod Fitting
pub mod Told
pub mod Calls
