-- The proofs of the reader of test vectors.
mod Reading
mod Holding
mod Counting
mod Replaying
pub mod Determined
pub mod Instances
