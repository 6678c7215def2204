pub mod Rule
pub mod Written
pub mod Valid
pub mod Outcome
