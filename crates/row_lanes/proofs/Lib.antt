pub mod RowLanes
pub mod Passes
