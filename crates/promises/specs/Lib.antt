-- The words in which the promises are stated.
pub mod Promise
pub mod Stars
