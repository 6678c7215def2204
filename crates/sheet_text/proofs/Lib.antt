pub mod Answers
pub mod OneText
pub mod Words
