pub mod Step
pub mod Fitting
