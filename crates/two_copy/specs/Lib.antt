pub mod Places
pub mod Masks
pub mod Models
pub mod Described
