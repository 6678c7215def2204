pub mod Rounds
pub mod Recorded
