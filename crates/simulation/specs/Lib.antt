pub mod FromZero
pub mod Steps
