pub mod Search
pub mod Number
pub mod Result
pub mod Line
pub mod Count
pub mod Digits
pub mod Body
pub mod Written
