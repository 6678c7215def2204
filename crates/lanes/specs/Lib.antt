pub mod Word
pub mod Truth
