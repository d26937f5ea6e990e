-- Laws of a block.
mod Blocks
