pub mod Capped
pub mod Holds
pub mod Recent
