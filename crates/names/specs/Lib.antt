pub mod Limits
pub mod Names
pub mod Glyphs
pub mod Spelled
pub mod Order
