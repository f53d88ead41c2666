pub mod Readings
pub mod Divides
pub mod LookUps
pub mod Collects
pub mod Prints
pub mod Parses
