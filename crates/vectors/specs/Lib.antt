-- What the contracts of the reader of test vectors cite.
pub mod Text
pub mod Rooms
pub mod Counts
pub mod Asked
pub mod Told
pub mod Reader
pub mod Replay
