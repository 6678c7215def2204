pub mod Ending
pub mod Take
pub mod Written
pub mod Valid
pub mod Outcome
