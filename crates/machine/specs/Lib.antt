-- The byte machine: what each call does to the lent bytes, store by store. Every store is said as `put`: a run of bytes is there,
-- and the rest is as it was. Beneath: queuing and clearing (Stores), packets built and queued (Built), entries (Entered). A module
-- for each kind of frame: Heard, Obeyed, Ticked, Sampled, Polled. One call: Called;
-- calls one after the other: Runs.
pub mod Stores
pub mod Built
pub mod Entered
pub mod Heard
pub mod Ticked
pub mod Sampled
pub mod Obeyed
pub mod Polled
pub mod Called
pub mod Runs
