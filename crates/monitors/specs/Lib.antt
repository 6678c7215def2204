pub mod Monitor
pub mod State
pub mod Along
pub mod Sheet
