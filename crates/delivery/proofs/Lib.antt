-- Demand 3 holds; Demand3 is the last step. Loss is the small loss worked out by hand. Handing says how long a handed-out packet is, Sharp
-- that 4,094 is the most, and Across that another order among streams is within the demand.
pub mod Reading
pub mod Way
pub mod Selected
pub mod QueueOrder
pub mod Delivery
pub mod Together
pub mod Demand3
pub mod Loss
pub mod Handing
pub mod Sharp
pub mod Across
