pub mod Lengths
pub mod OneAnswer
pub mod Runs
pub mod Told
pub mod Lending
pub mod Circuits
