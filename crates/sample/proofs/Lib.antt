-- The reply to a sample by what stands in the lent bytes.
mod SampleReply
