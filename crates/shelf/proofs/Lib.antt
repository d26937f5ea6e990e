-- Laws of the reader's lent bytes: fresh bytes (Fresh), what a store into one stream's places leaves
-- and what it makes of that stream's record (Gathered), a packet's fields (Packets), one call (Steps), calls one after the other
-- (Runs), what refusals leave (Refusals), which replies there are (Replies), what a packet comes to, by the bytes
-- (Formed), the length of what is handed out (Handed), and what a call leaves as it was, and what 23 leaves (Leaves).
pub mod Fresh
pub mod Gathered
pub mod Packets
pub mod Steps
pub mod Runs
pub mod Refusals
pub mod Replies
pub mod Formed
pub mod Handed
pub mod Leaves
