-- The numbers of replies.
pub mod Numbers
