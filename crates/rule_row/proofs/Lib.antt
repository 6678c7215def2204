pub mod Laws
pub mod RowValues
pub mod Spelling
pub mod WrittenRows
