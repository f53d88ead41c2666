pub mod Decimals
pub mod Substitutes
pub mod Commands
pub mod Forms
pub mod Views
pub mod InputLines
pub mod Collected
pub mod Answers
