-- Proofs about the reply to a packet.
mod Receiving
