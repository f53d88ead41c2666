pub mod Mirrored
pub mod Sought
pub mod Agreed
pub mod Latest
