pub mod ComputedSheets
pub mod ComputedLengths
pub mod Computed
pub mod Cases
