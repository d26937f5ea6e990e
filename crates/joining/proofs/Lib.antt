-- One turn of the loop.
mod Steps
