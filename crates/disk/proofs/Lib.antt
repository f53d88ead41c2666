pub mod Lists
pub mod Unless
pub mod Kept
pub mod Shown
pub mod Steady
pub mod Alike
