-- What a row that the code hands out means: the row of document 01's table.
pub mod Meaning
