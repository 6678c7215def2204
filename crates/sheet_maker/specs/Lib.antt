pub mod Made
pub mod Length
pub mod Answer
