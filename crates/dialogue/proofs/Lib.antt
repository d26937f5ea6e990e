-- Laws of what the loop makes of what reads bring.
mod Talking
