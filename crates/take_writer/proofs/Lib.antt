pub mod Answers
pub mod Cycles
pub mod Lengths
pub mod ReadBack
