pub mod Gates
pub mod Valued
pub mod Sections
pub mod Valuations
