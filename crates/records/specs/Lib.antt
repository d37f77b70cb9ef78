-- What the contracts of layer 3 cite, over the definitions of the crate laws.
pub mod Ideal
pub mod Answer
pub mod Host
pub mod HostParts
pub mod Rows
