pub mod Stripes
pub mod Checks
pub mod Outputs
pub mod Answers
