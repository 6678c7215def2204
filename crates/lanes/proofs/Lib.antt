pub mod Words
pub mod Stretches
pub mod Windows
pub mod Carries
pub mod LaneWords
pub mod Masks
pub mod Recordings
pub mod Shown
