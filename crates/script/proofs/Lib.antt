pub mod Scripts
pub mod Lengths
pub mod Cuts
pub mod Lookups
pub mod Fills
pub mod Stems
pub mod Runs
