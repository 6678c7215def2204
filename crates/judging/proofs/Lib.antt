pub mod Verdicts
pub mod Roots
pub mod ByBits
pub mod Covered
