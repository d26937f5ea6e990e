-- What demand 3 rests on: of the controller, how long what it sends is, that packets are sent whole and their pieces polled in order (Sizes,
-- Whole, Sending, Polled); of the reader, what it makes of a stream's arrivals (Arrivals).
pub mod Sizes
pub mod Whole
pub mod Sending
pub mod Arrivals
pub mod Polled
