-- What is demanded of packets on their way from the controller to the reader (demand 3), on document 01's definitions (`paper`): Demands is
-- the claim, and the others are its parts, in the order of its words; the packets polled are those of `polls`.
pub mod Demands
pub mod Chosen
pub mod HandedOut
pub mod Fates
