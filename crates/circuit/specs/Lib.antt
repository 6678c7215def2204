pub mod Circuit
pub mod Valuation
