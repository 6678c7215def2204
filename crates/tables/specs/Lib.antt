pub mod Choice
pub mod Bytes
pub mod Refusal
pub mod Kind
pub mod Place
pub mod Bit
pub mod Used
pub mod Only
