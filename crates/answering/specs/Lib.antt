-- Which machine answers.
pub mod Machines
