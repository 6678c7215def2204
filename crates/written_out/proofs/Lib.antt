pub mod OneLane
pub mod Lanes
pub mod Whole
pub mod Laws
