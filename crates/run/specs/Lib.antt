pub mod Cycles
pub mod Run
pub mod Verdict
pub mod Calls
