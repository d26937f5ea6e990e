-- What the loop of both programs makes of what its reads bring.
pub mod Loop
