-- What the contracts of layer 1 cite, over the definitions of the crate laws.
pub mod Refusal
pub mod Monomial
pub mod Mask
