-- Laws of text that is written part by part.
mod Parts
