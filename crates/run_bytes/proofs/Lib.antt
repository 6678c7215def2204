pub mod Filled
pub mod Positions
pub mod Encoding
pub mod Decoding
pub mod Reading
pub mod Laws
