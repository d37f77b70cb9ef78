-- The meaning of document 01, over natural numbers, with no limit on width, count or exponent.
pub mod Monomial
pub mod Ideal
pub mod Count
pub mod Coefficients
pub mod Sums
pub mod Room
pub mod Numerator
pub mod Hilbert
pub mod Order
pub mod Minimal
pub mod Dimension
pub mod Mask
pub mod Record
pub mod Word
