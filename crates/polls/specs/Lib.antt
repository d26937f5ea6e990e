-- Demand 3's packets: those polled.
pub mod Polls
