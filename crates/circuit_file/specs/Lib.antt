pub mod File
pub mod Written
pub mod OfFile
