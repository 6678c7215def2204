pub mod Answer
pub mod Section
