-- What the contracts of layer 2 cite.
pub mod Wide
pub mod Coefficients
pub mod Hilbert
pub mod HilbertParts
pub mod Numerator
pub mod RoomsParts
pub mod Update
pub mod Dimension
pub mod DimensionParts
pub mod BothLists
pub mod FewParts
