-- What a call of the reader replies.
mod Replied
