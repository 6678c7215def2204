pub mod States
pub mod ByPattern
pub mod Soundness
pub mod Made
pub mod Locality
pub mod Sheets
pub mod Periods
pub mod Facts
