pub mod Row
pub mod Written
