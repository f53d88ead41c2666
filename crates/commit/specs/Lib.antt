pub mod Commits
pub mod Replies
pub mod Stamps
pub mod Draws
pub mod Stamped
pub mod Updates
