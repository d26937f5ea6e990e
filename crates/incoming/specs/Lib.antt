-- What a read brings.
pub mod Brought
