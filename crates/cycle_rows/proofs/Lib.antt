pub mod ByKind
pub mod Cases
pub mod Steps
pub mod Turns
pub mod Order
pub mod RowFrom
pub mod Columns
pub mod Only
