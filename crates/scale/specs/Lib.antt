pub mod Semirings
pub mod Cuts
pub mod Counts
pub mod Prices
