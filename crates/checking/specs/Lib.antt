pub mod Survey
pub mod Finding
pub mod Conclusion
pub mod Answer
