-- The ring.
mod Ring
