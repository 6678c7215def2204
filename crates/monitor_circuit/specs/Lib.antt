pub mod Wiring
pub mod Monitors
pub mod Steps
