pub mod Digits
pub mod Files
pub mod Cycle
pub mod Once
pub mod Told
