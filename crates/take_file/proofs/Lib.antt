pub mod Endings
pub mod Reading
pub mod Takes
