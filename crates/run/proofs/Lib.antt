pub mod Led
pub mod TakeFile
pub mod Services
pub mod Calls
pub mod Verdicts
pub mod Witness
