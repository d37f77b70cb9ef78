-- The proofs of layer 1.
mod Checks
mod Pairs
mod Chunks
pub mod Outcomes
pub mod Determined
