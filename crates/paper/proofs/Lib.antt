-- What document 01 states about its machine, proved on the definitions of specs/, and the examples (Examples, Counts, Worked). Demand 3 is
-- proved in `delivery`.
pub mod All
pub mod Table
pub mod Shapes
pub mod Refusals
pub mod Modes
pub mod Labels
pub mod Kept
pub mod History
pub mod Packets
pub mod Examples
pub mod Counts
pub mod Worked
