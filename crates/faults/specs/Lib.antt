pub mod Numbers
pub mod Trails
pub mod Causes
