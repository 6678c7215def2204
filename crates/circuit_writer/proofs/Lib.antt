pub mod Sections
pub mod Small
pub mod Whole
pub mod Answers
pub mod Lengths
