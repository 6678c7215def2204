pub mod NumberLists
pub mod NumberLines
pub mod Sections
pub mod WrittenNumbers
