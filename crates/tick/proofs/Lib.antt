-- The reply to a tick by what stands in the lent bytes.
pub mod TickReply
