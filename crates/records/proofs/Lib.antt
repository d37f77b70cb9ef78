-- What the proofs of layer 3 share.
pub mod PutBytes
pub mod Cells
pub mod Choosing
pub mod Standing
pub mod Answers
pub mod HostCall
pub mod Statuses
pub mod LongInput
pub mod DeterminedRecords
