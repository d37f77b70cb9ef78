-- The proofs of the bridge.
pub mod Determined
mod Parts
