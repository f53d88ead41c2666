pub mod Ways
pub mod Updates
