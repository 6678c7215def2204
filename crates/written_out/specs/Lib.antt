pub mod WrittenOut
pub mod Covered
