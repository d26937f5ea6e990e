-- That the byte machine is document 01's: the controller that the bytes hold after each act is the paper's after it, and the bytes
-- still fit. What every proof rests on (the bytes around the numbers, Past; parts that a store leaves, Same), the queue (Queue), packets
-- sent (Sent), entries to a mode (Entries), counts and marks (Counts); then a module for each kind of frame, fresh bytes (Fresh), and
-- one call (Steps).
pub mod Past
pub mod Same
pub mod Queue
pub mod Sent
pub mod Entries
pub mod Counts
pub mod Broadcasts
pub mod Commands
pub mod Ticks
pub mod Samples
pub mod Polls
pub mod Fresh
pub mod Steps
pub mod Joins
