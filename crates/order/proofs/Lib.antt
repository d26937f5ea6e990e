-- The reply to a command by what it decodes to.
pub mod CommandReply
