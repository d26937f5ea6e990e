-- One turn of each loop.
mod Steps
