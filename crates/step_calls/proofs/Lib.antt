pub mod Order
pub mod Steps
pub mod Demand
pub mod Witness
