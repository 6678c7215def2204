pub mod Told
pub mod Matches
pub mod Filling
