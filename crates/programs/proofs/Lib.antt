-- What both programs print is document 01's (Bench, Says), however the input is cut (Cut) and whatever stood in the output (Output).
pub mod Bench
pub mod Says
pub mod Cut
pub mod Output
mod Worked
