-- What the user was promised, over the contracts as the source states them.
pub mod Checks
mod Answers
mod Means
mod Given
pub mod Refusals
pub mod Counts
pub mod Records
pub mod Determined
pub mod Stars
