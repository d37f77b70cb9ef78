-- What is proved of the program `dim` beside its functions.
pub mod WholeInput
