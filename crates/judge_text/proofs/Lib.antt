pub mod OneText
pub mod Words
