-- What fresh records rest on.
mod Records
