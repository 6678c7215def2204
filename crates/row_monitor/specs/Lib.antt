pub mod RowReport
pub mod Word
