-- What the program `dim` writes.
pub mod Dim
