-- Facts that belong to no one function.
mod Bits
mod Steps
mod Runs
mod Tally
mod ToLaws
mod TwoWords
mod KeptSums
mod Numbers
mod MaskArray
mod HilbertCall
mod NumeratorCall
mod BothLists
mod AskedCells
mod AskedColumns
mod QuotientCells
mod RoomsCall
mod UpdateCall
mod LeastPowers
mod DimensionCall
mod FewRows
pub mod Sums
pub mod SignedValue
pub mod DeterminedHilbert
pub mod DeterminedNumerator
pub mod DeterminedDimension
