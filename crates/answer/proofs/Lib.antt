-- A polled packet as bytes.
pub mod Shown
