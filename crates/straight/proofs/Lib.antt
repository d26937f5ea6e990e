-- Laws of a line that ends in its chunk.
mod Ends
