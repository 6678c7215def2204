pub mod Answered
pub mod Answers
pub mod Lengths
pub mod Texts
pub mod Room
