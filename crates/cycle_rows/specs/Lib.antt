pub mod Cycle
pub mod Cells
pub mod Meant
pub mod Steps
