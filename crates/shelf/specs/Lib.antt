-- The reader's lent bytes: where each number stands (Layout), the reader that they hold (View), what a call asks of them (Range),
-- one call (Received), fresh bytes (Fresh), and calls one after the other (Runs).
pub mod Layout
pub mod View
pub mod Range
pub mod Received
pub mod Fresh
pub mod Runs
