pub mod Texts
pub mod Lengths
pub mod Sheets
pub mod Answers
pub mod ReadBack
pub mod Demand
