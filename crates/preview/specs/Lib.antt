pub mod Session
pub mod Replied
